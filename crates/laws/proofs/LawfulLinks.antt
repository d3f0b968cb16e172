-- Every definition of Links.antt (links, event and tick) is lawful.
use Prim.Native.Nat.{ℕ}
use native.Mathlib.Omega.{arith}
use Rattle.rules.specs.Work.{not_ready}
use Rattle.rules.specs.Links.{transfer_ends, end_at_zero, advance, notice_held, hold, event_meets, event_holds, event, tick_slice, tick_prescaler, tick_clocks, tick, take_byte, take, receive, give}
use Rattle.laws.proofs.Lawful.{Law, law, ◌then◌, unchanged, lawful-access, lawful_eq, lawful_le, lawful-lower, lawful_lt, lawful-put, lawful-raise, lawful-refuse, lawful-store_byte}

module _ {A : ℕ → Type 0} where
  pub lawful-transfer_ends : (c : ℕ) → Law A (λ mem. transfer_ends c)
  unfolding transfer_ends
  lawful-transfer_ends c = law (λ w. (lawful-lower _ _).at w then lawful-raise _ _)

  pub lawful-end_at_zero : (c : ℕ) → Law A (λ mem. end_at_zero c)
  unfolding end_at_zero
  lawful-end_at_zero c = law (λ w. lawful_eq _ _ ((lawful-transfer_ends _).at w) unchanged)

  pub lawful-advance : (c : ℕ) → Law A (λ mem. advance c)
  unfolding advance
  lawful-advance c = law (λ w. (lawful-put _ _).at w then lawful-put _ _ then lawful-end_at_zero _)

  pub lawful-notice_held : (c : ℕ) → Law A (λ mem. notice_held c)
  unfolding notice_held
  lawful-notice_held c = law (λ w. lawful_eq _ _ unchanged ((lawful-lower _ _).at w then lawful-raise _ _))

  pub lawful-hold : (c byte : ℕ) → Law A (λ mem. hold c byte)
  unfolding hold
  lawful-hold c byte = law (λ w. (lawful-put _ _).at w then lawful-notice_held _)

  pub lawful-event_meets : Law A (λ mem. event_meets)
  unfolding event_meets
  lawful-event_meets = law (λ w. (lawful-put _ _).at w then lawful-transfer_ends _)

  pub lawful-event_holds : Law A (λ mem. event_holds)
  unfolding event_holds
  lawful-event_holds = law (λ w. (lawful-raise _ _).at w then lawful-notice_held _)

  pub lawful-event : A not_ready → Law A (λ mem. event)
  unfolding event
  lawful-event h = law (λ w. lawful_eq _ _ (lawful_eq _ _ (lawful-event_holds.at w) ((lawful-refuse not_ready h (omega arith)).at w)) (lawful_eq _ _ (lawful_eq _ _ (lawful-event_holds.at w) ((lawful-refuse not_ready h (omega arith)).at w)) (lawful-event_meets.at w)))

  pub lawful-tick_slice : Law A (λ mem. tick_slice)
  unfolding tick_slice
  lawful-tick_slice = law (λ w. lawful_lt _ _ (lawful_eq _ _ unchanged (lawful_eq _ _ ((lawful-put _ _).at w) unchanged)) unchanged)

  pub lawful-tick_prescaler : Law A (λ mem. tick_prescaler)
  unfolding tick_prescaler
  lawful-tick_prescaler = law (λ w. lawful_le _ _ ((lawful-put _ _).at w then lawful-put _ _) ((lawful-put _ _).at w))

  pub lawful-tick_clocks : Law A (λ mem. tick_clocks)
  unfolding tick_clocks
  lawful-tick_clocks = law (λ w. (lawful-put _ _).at w then lawful-tick_prescaler then lawful-tick_slice)

  pub lawful-tick : Law A (λ mem. tick)
  unfolding tick
  lawful-tick = law (λ w. lawful_eq _ _ unchanged (lawful-tick_clocks.at w))

  pub lawful-take_byte : (c : ℕ) → Law A (λ mem. take_byte mem c)
  unfolding take_byte
  lawful-take_byte c = law (λ w. (lawful-access _).at w then lawful-advance _)

  pub lawful-take : A not_ready → (c : ℕ) → Law A (λ mem. take mem c)
  unfolding take
  lawful-take h c = law (λ w. lawful_eq _ _ ((lawful-refuse not_ready h (omega arith)).at w) (lawful_eq _ _ ((lawful-refuse not_ready h (omega arith)).at w) ((lawful-take_byte _).at w)))

  pub lawful-receive : (c byte : ℕ) → Law A (λ mem. receive mem c byte)
  unfolding receive
  lawful-receive c byte = law (λ w. (lawful-store_byte _ _).at w then lawful-advance _)

  pub lawful-give : A not_ready → (c byte : ℕ) → Law A (λ mem. give mem c byte)
  unfolding give
  lawful-give h c byte = law (λ w. lawful_eq _ _ (lawful_eq _ _ ((lawful-hold _ _).at w) ((lawful-refuse not_ready h (omega arith)).at w)) (lawful_eq _ _ (lawful_eq _ _ ((lawful-hold _ _).at w) ((lawful-refuse not_ready h (omega arith)).at w)) ((lawful-receive _ _).at w)))
