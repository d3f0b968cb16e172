-- WHY THE SHORTEST: a writer that fills every chain up to eight bytes, with prefixes of 0 before it, gives a function the same operand. So the
-- operand alone does not tell the two writers apart; that no chain is shorter does.
use mathlib.Core.Path.{◌≡◌, refl, ap, ◌∙◌}
use mathlib.Core.Logic.{inl}
use mathlib.Core.List.{List, [], ◌∷◌, ◌++◌}
use Prim.Native.Nat.{ℕ, zero, suc, ◌-◌, ◌^◌, ◌<◌}
use native.Mathlib.Omega.{arith}
use lib.ListN.{length, replicate, length-append, length-replicate}
use Rattle.rules.specs.Tests.{if_lt, if_eq}
use Rattle.rules.specs.Work.{put, access}
use Rattle.rules.specs.Timers.{timer_due, timer_ready}
use Rattle.rules.specs.Channels.{request_from, requested}
use Rattle.rules.specs.Step.{fetched}
use Rattle.rules.specs.Calls.{code_word, fresh_word, fresh_memory, fresh_regs}
use Rattle.assembly.specs.Chain.{pfix, instruction, chain, after_prefixes, operand_of}
use Rattle.assembly.specs.Calls.{function_bad}
use Rattle.assembly.specs.Meeting.{Prefixes, Undisturbed, steps_after, NoneShorter}
use Rattle.assembly.proofs.Reading.{is-prefix, after-pfix, after-append, prefixes-append}
use Rattle.assembly.proofs.Exact.{before, final, chain-parts, chain_operand, all_prefixes}
use Rattle.assembly.proofs.Shortest.{eight_enough}

-- prefixes of 0
abbrev pub zeros : ℕ → List ℕ
zeros n = replicate n (instruction pfix 0)

-- the prefixes of an operand, filled up to seven
abbrev pub filling : ℕ → ℕ → List ℕ
filling f v = zeros (8 - length (chain f v)) ++ before 15 v

abbrev pub filled : ℕ → ℕ → List ℕ
filled f v = filling f v ++ (final f v ∷ [])

zeros_prefixes : (n : ℕ) → Prefixes (zeros n)
zeros_prefixes zero = tt
zeros_prefixes (suc n) = (is-prefix (instruction pfix 0) (inl refl), zeros_prefixes n)

-- a prefix of 0 leaves Oreg 0
zeros_leave : (n : ℕ) → after_prefixes 0 (zeros n) ≡ 0
unfolding after_prefixes
zeros_leave zero = refl
zeros_leave (suc n) = ap (λ (o : ℕ). after_prefixes o (zeros n)) (after-pfix 0 (instruction pfix 0) refl refl) ∙ zeros_leave n

-- it writes prefixes and a final byte, eight in all, and gives the function the same operand
pub filled_prefixes : (f v : ℕ) → Prefixes (filling f v)
filled_prefixes f v = prefixes-append (zeros (8 - length (chain f v))) (before 15 v) (zeros_prefixes _) (all_prefixes 15 v)

pub filled_operand : (f v : ℕ) → v < 2 ^ 32 → operand_of (filling f v) (final f v) ≡ v
filled_operand f v h =
    rw (after-append 0 (zeros (8 - length (chain f v))) (before 15 v), zeros_leave (8 - length (chain f v))) (chain_operand f v h)

pub filled_eight : (f v : ℕ) → v < 2 ^ 32 → length (filled f v) ≡ 8
filled_eight f v h =
    rw (length-append (filling f v) (final f v ∷ []), length-append (zeros (8 - length (chain f v))) (before 15 v), length-replicate {A = ℕ} (8 - length (chain f v)) (instruction pfix 0))
    (omega (arith, eight_enough f v h, ap length (chain-parts 15 f v) ∙ length-append (before 15 v) (final f v ∷ [])))

-- and it is not the shortest: in a fresh machine with the code 40 one byte gives ldc the operand 0
pub filled-not : NoneShorter filled → ⊥
unfolding Undisturbed steps_after fresh_regs fresh_memory fresh_word code_word if_lt if_eq function_bad requested request_from timer_ready timer_due fetched put access
filled-not h =
    omega (
      arith,
      filled_eight 0x4 0 (omega arith),
      h 0x4 0 refl [] 0x40 tt refl (fresh_regs 1) (fresh_memory (0x40 ∷ []) 0 64)
          (record { count = refl; clear = refl; stand = (omega arith, refl, tt); undisturbed = (omega arith, refl, refl) })
          refl,
    )
