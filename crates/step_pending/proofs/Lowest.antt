-- One turn of the loop of service::request_from, and its end.
use mathlib.Core.Path.{◌≡◌}
use Prim.Native.Nat.{ℕ, suc, ◌+◌}
use native.Mathlib.Numerals.{add-one}
use lib.Bits.{bit_and}
use Rattle.rules.specs.Registers.{channel_reg, run_request, ready_request, link_chans}
use Rattle.rules.specs.Work.{Work, reg}
use Rattle.rules.specs.Channels.{request_from}
use Rattle.rules.proofs.Tests.{yes_eq, no_eq}

module _ (c left : ℕ) (w : Work) where
  pub search-ends : left ≡ 0 → request_from c left w ≡ link_chans
  unfolding request_from
  search-ends h = rw h

  module _ (n : ℕ) (el : left ≡ suc n) where
    pub found_here : (bit_and (reg (channel_reg c) w) (run_request + ready_request) ≡ 0 → ⊥) → request_from c left w ≡ c
    unfolding request_from
    found_here h = rw (el, no_eq h)

    pub not_here : bit_and (reg (channel_reg c) w) (run_request + ready_request) ≡ 0 → request_from c left w ≡ request_from (c + 1) n w
    unfolding request_from
    not_here h = rw (el, yes_eq h, add-one c)
