-- Every definition of Step.antt (one step) is lawful. So THE LONGER MEMORY: of a step in a memory, and in that memory with words appended, the first
-- answers 10 for an access outside, or both answer the same number, and where that is 0, their registers and stores are the same. And THE LIST: the
-- first of a step's accesses that is outside memory is the one that its answer tells.
use mathlib.Core.Path.{◌≡◌, refl, ap, ◌∙◌}
use mathlib.Core.List.{List, [], ◌++◌}
use Prim.Native.Nat.{ℕ, ◌/◌, ◌^◌, ◌≤◌, ◌<◌}
use native.Mathlib.Omega.{arith}
use lib.ListN.{length, get_or}
use Rattle.rules.specs.Words.{index}
use Rattle.rules.specs.Registers.{registers, iptr_reg}
use Rattle.rules.specs.Work.{accesses_of, begin, begin_traced, first_outside, reg, kind_fetch, outside, halted, idle, stop, unlisted, Work}
use Rattle.rules.specs.Timers.{timer_due, timer_ready}
use Rattle.rules.specs.Channels.{request_from, requested}
use Rattle.rules.specs.Step.{halt_if_asked, halt_on_error, fetched, execute, decode, instruction, instruction_unless_idle, timers_first, channels_first, choose, step, accesses}
use Rattle.laws.specs.Alike.{Alike}
use Rattle.laws.specs.Listed.{told_outside, told, Listed}
use Rattle.laws.proofs.Fine.{Fine, Turns, AnswerIs, never_turns, fine-outside}
use Rattle.laws.proofs.Listed.{first_ends}
use Rattle.laws.proofs.Lawful.{Law, law, kept, ◌then◌, unchanged, lawful_eq, lawful-fetch, lawful_lt, lawful-pick, lawful-put, lawful-put_core, lawful-raise, lawful-refuse}
use Rattle.laws.proofs.LawfulScheduling.{lawful-act_on_snp}
use Rattle.laws.proofs.LawfulTimers.{lawful-handle_timer_request}
use Rattle.laws.proofs.LawfulChannels.{lawful-handle_channel_request}
use Rattle.laws.proofs.LawfulOperations.{lawful-function}

module _ {A : ℕ → Type 0} where
  pub lawful-halt_if_asked : Law A (λ mem. halt_if_asked)
  unfolding halt_if_asked
  lawful-halt_if_asked = law (λ w. lawful_eq _ _ unchanged ((lawful-raise _ _).at w))

  pub lawful-halt_on_error : (before : ℕ) → Law A (λ mem. halt_on_error before)
  unfolding halt_on_error
  lawful-halt_on_error before = law (λ w. lawful_eq _ _ (lawful_eq _ _ unchanged (lawful-halt_if_asked.at w)) unchanged)

  pub lawful-fetched : (byte : ℕ) → Law A (λ mem. fetched byte)
  unfolding fetched
  lawful-fetched byte = law (λ w. (lawful-put _ _).at w then lawful-put _ _)

  pub lawful-execute : A stop → A unlisted → (code : ℕ) → Law A (λ mem. execute mem code)
  unfolding execute
  lawful-execute s h code = law (λ w. (lawful-function s h _).at w then lawful-put _ _ then lawful-act_on_snp)

  pub lawful-decode : A stop → A unlisted → (code : ℕ) → Law A (λ mem. decode mem code)
  unfolding decode
  lawful-decode s h code = law (λ w. lawful_eq _ _ ((lawful-put_core _).at w) (lawful_eq _ _ ((lawful-put_core _).at w) ((lawful-execute s h code).at w)))

  pub lawful-instruction : A outside → A stop → A unlisted → Law A instruction
  unfolding instruction
  lawful-instruction o s h =
      law (λ w.
      (lawful-fetch o (reg iptr_reg w)
      {next = λ mem byte after. decode mem (byte / 2 ^ 4) (fetched byte after)}
      (λ byte. law (λ after. (lawful-fetched byte).at after then lawful-decode s h (byte / 2 ^ 4)))).at w)

  pub lawful-instruction_unless_idle : A outside → A stop → A unlisted → A idle → Law A instruction_unless_idle
  unfolding instruction_unless_idle
  lawful-instruction_unless_idle o s h i = law (λ w. lawful_eq _ _ ((lawful-instruction o s h).at w) ((lawful-refuse idle i (omega arith)).at w))

  pub lawful-timers_first : A outside → A stop → A unlisted → A idle → Law A timers_first
  unfolding timers_first timer_ready timer_due
  lawful-timers_first o s h i = law (λ w. lawful-pick (timer_ready 0 w) ((lawful-handle_timer_request s _).at w then lawful-act_on_snp) (lawful-pick (timer_ready 1 w) ((lawful-handle_timer_request s _).at w then lawful-act_on_snp) ((lawful-instruction_unless_idle o s h i).at w)))

  pub lawful-channels_first : A outside → A stop → A unlisted → A idle → Law A channels_first
  unfolding channels_first requested request_from
  lawful-channels_first o s h i = law (λ w. lawful_lt (requested w) _ ((lawful-handle_channel_request s (requested w)).at w then lawful-act_on_snp) ((lawful-timers_first o s h i).at w))

  pub lawful-choose : A outside → A stop → A unlisted → A idle → Law A choose
  unfolding choose
  lawful-choose o s h i = law (λ w. lawful_eq _ _ ((lawful-channels_first o s h i).at w) ((lawful-instruction_unless_idle o s h i).at w))

  pub lawful-step : A outside → A stop → A unlisted → A idle → A halted → Law A step
  unfolding step
  lawful-step o s h i k = law (λ w. lawful_eq _ _ ((lawful-choose o s h i).at w then lawful-halt_on_error _) ((lawful-refuse halted k (omega arith)).at w))

-- of a machine of 45 registers
pub step_alike : (m x : List ℕ) → length m < 2 ^ 30 → (r : List ℕ) → length r ≡ registers → Alike (length m) (step m (begin r)) (step (m ++ x) (begin r))
step_alike m x small r h = ((lawful-step {A = λ n. Unit {0}} tt tt tt tt tt).at (begin r)).alike m x small (record { none = refl; inside = tt; ordinary = (h, refl) })

pub step-listed : (mem r : List ℕ) → length r ≡ registers → Listed (length mem) (begin r) [] (step mem (begin r)) (step mem (begin_traced r))
step-listed mem r h = ((lawful-step {A = λ n. Unit {0}} tt tt tt tt tt).at (begin r)).lists mem (h, refl) []

-- THE LIST: the first of a step's accesses that is outside memory is the one that its answer tells
pub first-outside : (mem r : List ℕ) → length r ≡ registers → first_outside mem (accesses mem r) ≡ told_outside (told (step mem (begin r)))
unfolding accesses
first-outside mem r h =
    let l = step-listed mem r h in
    ap (λ (w : Work). first_outside mem (accesses_of w.trace)) l.same ∙ first_ends mem l.more (step mem (begin r)) (l.ends refl)

-- ---- a fetch outside memory is refused with 10, of a fetch at Iptr

abbrev pub FetchRefused : List ℕ → Work → Type 0
FetchRefused r w = Fine (AnswerIs outside kind_fetch (get_or r iptr_reg 0)) w

pub fetch-refused : (r mem : List ℕ) → length r ≡ registers → length mem ≤ index (get_or r iptr_reg 0) → FetchRefused r (instruction mem (begin r))
unfolding instruction
fetch-refused r mem h o =
    kept (lawful-decode (turns stop) (turns unlisted) _) mem (kept (lawful-fetched _) mem (fine-outside mem kind_fetch (get_or r iptr_reg 0) (begin r) (h, refl) refl o))
  where
    turns : (number : ℕ) → Turns (AnswerIs outside kind_fetch (get_or r iptr_reg 0)) number
    turns = never_turns outside kind_fetch (get_or r iptr_reg 0) (λ z. omega (arith, z))
