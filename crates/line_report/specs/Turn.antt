-- For document 01, "Stored lines": one turn of `report_input` over a piece of input: what was done, and what is left to be done after it. Only private contracts cite it.
use Rattle.std.specs.Prelude.{◌≡◌, ℕ, ◌+◌, ◌-◌, ◌<◌, ◌≤◌, List, length, drop}
use Rattle.std.proofs.lemmas.List.Edits.{sets}
use Rattle.frame.specs.declared.Kind.{Kind}
use Rattle.line_report.specs.declared.Reported.{Reported}
use Rattle.line_report.specs.Report.{Work, work_on, ReportDone, report_done, room_wanted}

-- work on a piece of `size` bytes, after so much of it was used and so much text was written
abbrev pub placed : ℕ → ℕ → ℕ → List ℕ → Work → ReportDone
placed size used written buffer rest =
    report_done
    (record { report = rest.report; used = used + rest.used; written = written + length rest.text; room_wanted = room_wanted (used + rest.used) size })
    (sets buffer written rest.text)

-- what comes of it if the rest of the input is worked on
abbrev pub finished_from : (Kind → List ℕ) → Reported → List ℕ → List ℕ → ReportDone
finished_from columns done input buffer =
    placed (length input) done.used done.written buffer (work_on columns (length buffer - done.written) done.report (drop done.used input))

-- some input was used, and what comes of it all stays the same
pub record Turned (columns : Kind → List ℕ) (before after : Reported) (input buffer₀ buffer₁ : List ℕ) : Type 0 where
  pub same : finished_from columns after input buffer₁ ≡ finished_from columns before input buffer₀
  pub onward : before.used < after.used
  pub within : after.used ≤ length input
  pub fits : after.written ≤ length buffer₁
  pub not_stopped : after.room_wanted ≡ 0
