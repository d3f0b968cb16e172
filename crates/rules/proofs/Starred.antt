-- The starred lines of 01, proved of the definitions.
use mathlib.Core.Path.{◌≡◌, refl, ap}
use mathlib.Core.Bool.{true, false}
use Prim.Native.Nat.{ℕ, zero, suc, ◌+◌, ◌-◌, ◌%◌, ◌^◌, ◌<◌}
use native.Mathlib.Omega.{arith}
use lib.Count.{count_leading_zeros}
use lib.IntN.{pos, negsuc}
use Rattle.rules.specs.Tests.{if_lt, if_le, if_eq}
use Rattle.rules.specs.Words.{sign, restore_to_range, overflows, positive, later}
use Rattle.rules.specs.Core.{overflow_check}
use Rattle.rules.specs.Stack.{csub0, ccnt1, norm}
use Rattle.rules.specs.Registers.{core_of, with_core}
use Rattle.rules.specs.Memory.{stores, storing, touches, hit, touched_from, touched}
use Rattle.rules.specs.Work.{put, raise, lower, put_core, refuse_at, append, word_at, byte_at, access, store_word, r_index_word, r_index_byte, w_index_word}
use Rattle.rules.specs.Scheduling.{act_on_snp, add_to_c, loop_back, count_up, loop_on, count_down, store_count, time_slice, slice_if_running, j, lend}
use Rattle.rules.specs.Data.{lb}
use Rattle.rules.specs.Timers.{timer_due, timer_ready}
use Rattle.rules.specs.Channels.{request_from, requested}
use Rattle.rules.specs.Operations.{register_operations, other_operations, operations, operate, functions, function}
use Rattle.rules.specs.Step.{halt_if_asked, halt_on_error, fetched, execute, decode, instruction, instruction_unless_idle, timers_first, channels_first, choose}
use Rattle.rules.specs.Step as steps
use Rattle.rules.specs.Journal.{olds, record_of, bounds_bad}
use Rattle.rules.specs.Calls.{memory_size_bad, journal_size_bad, size_bad, recorded, commit_or_refuse, checked, step, code_bad, code_word, fresh_word, fresh_memory, fresh_regs, fresh}
use Rattle.rules.specs.Starred.{with_settings, has, starting, leads, runs, every, starred, NeitherLater}
use Rattle.rules.proofs.Tests.{yes_lt, no_lt, cases_lt}

-- ---- of two times 2 ^ 31 apart one is below 2 ^ 31 and so is not negative, the other is negative

low-sign : {x : ℕ} → x < 2 ^ 31 → sign x ≡ pos x
unfolding sign
low-sign h = yes_lt h _ _

high-sign : {x : ℕ} → x < 2 ^ 31 → sign (x + 2 ^ 31) ≡ negsuc (2 ^ 31 - 1 - x)
unfolding sign
high-sign {x = x} h = rw (no_lt {a = x + 2 ^ 31} {b = 2 ^ 31} (omega arith)) (ap negsuc (omega arith))

half-range : {x : ℕ} → x ≡ 2 ^ 31 → positive x ≡ false
unfolding positive
half-range e = rw e

apart : (x : ℕ) → x < 2 ^ 31 → (later x (x + 2 ^ 31) ≡ false) × (later (x + 2 ^ 31) x ≡ false)
unfolding later restore_to_range
apart zero h = (rw (low-sign h, high-sign h) (half-range refl), rw (low-sign h, high-sign h) (half-range refl))
apart (suc n) h = (rw (low-sign h, high-sign h) (half-range (omega arith)), rw (low-sign h, high-sign h) (half-range (omega arith)))

neither-later : NeitherLater
neither-later t h =
    let u = (t + 2 ^ 31) % 2 ^ 32 in
    cases_lt t (2 ^ 31)
    (λ l. let e : u ≡ t + 2 ^ 31 = omega arith in rw e (apart t l))
    (λ g. let e : u + 2 ^ 31 ≡ t = omega arith in
    let both : (later u t ≡ false) × (later t u ≡ false) = rw e at (apart u (omega arith)) in
    (both.1, both.0))

-- ---- the table, by computation, and the law (01, What the contracts have to say)

pub starred-hold : (every starred ≡ true) × NeitherLater
unfolding starred every runs leads starting has with_settings step checked commit_or_refuse recorded size_bad memory_size_bad journal_size_bad bounds_bad record_of olds touched touched_from hit touches fresh code_bad fresh_regs fresh_memory fresh_word code_word if_lt if_le if_eq steps.step choose channels_first timers_first instruction_unless_idle instruction decode execute fetched halt_on_error halt_if_asked function functions operate register_operations other_operations operations requested request_from timer_ready timer_due put raise lower put_core core_of with_core word_at byte_at access refuse_at append store_word r_index_word r_index_byte w_index_word stores storing act_on_snp overflow_check overflows restore_to_range sign positive later csub0 ccnt1 norm count_leading_zeros lend loop_on loop_back count_up count_down store_count add_to_c time_slice slice_if_running j lb
starred-hold = (refl, neither-later)
