-- Document 01, "Well formed", with document 02, Q-1 and Q-4: the tests of a state, for refusal 2, and the same as facts, for the proofs. `WellFormedLaw` of
-- States.antt says that they agree.
use Rattle.std.specs.Prelude.{ℕ, ◌*◌, ◌%◌, ◌^◌, ◌<◌, ◌≤◌, ◌≡◌, ◌⊎◌, Bool, true, ◌||◌, [], ◌∷◌, eqb, ltb, leb}
use Rattle.laws.specs.Tests.{every}
use Rattle.fine_delay.specs.Delay.{has_setting}
use Rattle.receiver_state.specs.declared.Ids.{Ids}
use Rattle.receiver_state.specs.declared.Settings.{Settings}
use Rattle.receiver_state.specs.declared.Counters.{Counters}
use Rattle.receiver_state.specs.declared.Sequence.{Sequence}
use Rattle.receiver_state.specs.declared.Core.{Core}
use Rattle.receiver_state.specs.declared.Held.{Held}
use Rattle.receiver_state.specs.declared.Receiver.{Receiver}
use Rattle.receiver_state.specs.State.{fresh_settings}

-- ---- the tests

-- "IDs in range": refusals 3 and 4
unfoldable pub ids_ok : Ids → Bool
ids_ok own = every (leb 1 own.id ∷ leb own.id 16383 ∷ leb own.i2c 63 ∷ [])

-- "Config bytes as 7 asks": they differ from the fresh byte in no bit of 6..0
abbrev pub config_ok : ℕ → ℕ → Bool
config_ok fresh byte = eqb (byte % 2 ^ 7) (fresh % 2 ^ 7)

-- document 02, Q-4, of bytes 240 to 255: "a state with such a byte in register 0 or 1 is 2"
unfoldable pub settings_ok : Settings → Bool
settings_ok s =
    every
    (has_setting s.fine1
    ∷ has_setting s.fine2
    ∷ config_ok fresh_settings.config2 s.config2
    ∷ config_ok fresh_settings.config3 s.config3
    ∷ [])

-- "bunch under 4096, event numbers under 2^24"
unfoldable pub counters_ok : Counters → Bool
counters_ok k = every (ltb k.bunch 4096 ∷ ltb k.event (2 ^ 24) ∷ [])

-- the kept event number is one too; "the sequence has 0, 1 or 2 words left, at 0 with kept number 0"
unfoldable pub sequence_ok : Sequence → Bool
sequence_ok s = every (leb s.left 2 ∷ ltb s.event (2 ^ 24) ∷ (ltb 0 s.left || eqb s.event 0) ∷ [])

-- and "status bit 5 is a flag"
unfoldable pub core_ok : Core → Bool
core_ok core =
    every
    (ids_ok core.ids
    ∷ settings_ok core.settings
    ∷ counters_ok core.counters
    ∷ sequence_ok core.sequence
    ∷ leb core.errors.status5 1
    ∷ [])

-- "the receiver is waiting, or holds 1 to 15 bits of a short or 1 to 41 of a long frame, start and format as required, and no bits beyond":
-- at most 41 bits; the first is 0, no bit stands beyond, and with no bit held the number is 0; from 16 bits on the second is 1
unfoldable pub bits_ok : ℕ → ℕ → Bool
bits_ok count bits = every (leb count 41 ∷ ltb (bits * 2) (2 ^ count) ∷ (ltb count 16 || leb (2 ^ count) (bits * 4)) ∷ [])

-- document 02, Q-1: "The state gains the ones still wanted, 0 when waiting; over 41, or over 0 beside held frame bits, is not well formed."
unfoldable pub wanted_ok : ℕ → ℕ → Bool
wanted_ok count wanted = every (leb wanted 41 ∷ (eqb count 0 || eqb wanted 0) ∷ [])

-- `HeldLaw` of States.antt says both in the papers' words
unfoldable pub held_ok : Held → Bool
held_ok h = every (bits_ok h.count h.bits ∷ wanted_ok h.count h.wanted ∷ [])

unfoldable pub well_formed : Receiver → Bool
well_formed r = every (core_ok r.core ∷ held_ok r.held ∷ [])

-- ---- the facts

pub record IdsFacts (own : Ids) : Type 0 where
  pub some : 1 ≤ own.id
  pub below : own.id ≤ 16383
  pub i2c_below : own.i2c ≤ 63

pub record SettingsFacts (s : Settings) : Type 0 where
  pub fine_1 : has_setting s.fine1 ≡ true
  pub fine_2 : has_setting s.fine2 ≡ true
  pub config_2 : s.config2 % 2 ^ 7 ≡ fresh_settings.config2 % 2 ^ 7
  pub config_3 : s.config3 % 2 ^ 7 ≡ fresh_settings.config3 % 2 ^ 7

pub record CountersFacts (k : Counters) : Type 0 where
  pub bunch_below : k.bunch < 4096
  pub event_below : k.event < 2 ^ 24

pub record SequenceFacts (s : Sequence) : Type 0 where
  pub few : s.left ≤ 2
  pub kept_below : s.event < 2 ^ 24
  pub none_kept : s.left ≡ 0 → s.event ≡ 0

pub record CoreFacts (core : Core) : Type 0 where
  pub of_ids : IdsFacts core.ids
  pub of_settings : SettingsFacts core.settings
  pub of_counters : CountersFacts core.counters
  pub of_sequence : SequenceFacts core.sequence
  pub flag : core.errors.status5 ≤ 1

pub record HeldFacts (h : Held) : Type 0 where
  pub few : h.count ≤ 41
  pub start : h.bits * 2 < 2 ^ h.count
  pub format : (h.count < 16) ⊎ (2 ^ h.count ≤ h.bits * 4)
  pub few_wanted : h.wanted ≤ 41
  pub none_beside : (h.count ≡ 0) ⊎ (h.wanted ≡ 0)

pub record ReceiverFacts (r : Receiver) : Type 0 where
  pub of_core : CoreFacts r.core
  pub of_held : HeldFacts r.held
