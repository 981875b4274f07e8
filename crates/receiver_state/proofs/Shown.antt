-- What a clock shows, as a whole and by name. Assumes nothing.
use mathlib.Core.Path.{◌≡◌, refl, sym, subst}
use Prim.Native.Nat.{ℕ}
use Rattle.receiver_state.specs.declared.Outputs.{Outputs}
use Rattle.receiver_state.specs.Shown.{no_outputs, showing_frame, ShowsNothing, Stands, OutputsLaws}

pub shows_nothing : (shown : Outputs) → ShowsNothing shown → shown ≡ no_outputs
shows_nothing shown n = rw (n.no_trigger, n.no_missed, n.no_strobe_lem, n.no_number, n.no_verdict, n.no_flag, n.no_place, n.no_word) refl

pub none_shown : ShowsNothing no_outputs
none_shown =
    record {
      no_trigger = refl;
      no_missed = refl;
      no_strobe_lem = refl;
      no_number = refl;
      no_verdict = refl;
      no_flag = refl;
      no_place = refl;
      no_word = refl;
    }

pub same_stands : (shown : Outputs) → Stands shown shown
same_stands shown = record { trigger_stands = refl; missed_stands = refl; strobe_stands = refl; number_stands = refl }

pub frame_stands : (verdict corrected place word : ℕ) (shown : Outputs) → Stands (showing_frame verdict corrected place word shown) shown
frame_stands verdict corrected place word shown = record { trigger_stands = refl; missed_stands = refl; strobe_stands = refl; number_stands = refl }

pub outputs_laws : OutputsLaws
outputs_laws =
    record {
      all_zero = λ shown. (shows_nothing shown, λ e. subst ShowsNothing (sym e) none_shown);
      frame_stands = frame_stands;
    }
