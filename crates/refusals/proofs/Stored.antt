-- How many words tick, take, give and event store to: none; give one, where its byte is stored. This gives the number of pairs of
-- their records.
use mathlib.Core.Path.{◌≡◌, refl, ◌∙◌}
use mathlib.Core.Bool.{true}
use mathlib.Core.List.{List, [], ◌∷◌}
use Prim.Native.Nat.{ℕ, ◌<◌}
use lib.Bits.{bit_and}
use lib.ListN.{length, get_or}
use Rattle.rules.specs.Tests.{if_set}
use Rattle.rules.specs.Words.{index, selector, with_byte}
use Rattle.rules.specs.Registers.{pointer_reg, count_reg, channel_reg, active_bit, held_bit, event_channel}
use Rattle.rules.specs.Memory.{Store, word, touched}
use Rattle.rules.specs.Work.{Work, begin, put, raise, lower, access, refuse_at, refuse, append, store_byte, word_at, kind_store}
use Rattle.rules.specs.Links as links
use Rattle.rules.proofs.Tests.{yes_eq, no_eq, cases_eq, on_eq, on_lt, on_le}
use Rattle.laws.proofs.Calm.{inside-same}
use Rattle.laws.proofs.Single.{touched_none, touched-one}
use Rattle.refusals.specs.Conditions.{is_moving, give_pairs}

-- nothing is stored
abbrev None : Work → Type 0
None w = w.stored ≡ []

pub no_pairs : (size : ℕ) (ss : List Store) → ss ≡ [] → length (touched size ss) ≡ 0
no_pairs size ss e = rw (e, touched_none size)

pub tick-stored : (r : List ℕ) → None (links.tick (begin r))
unfolding links.tick links.tick_clocks links.tick_prescaler links.tick_slice put
tick-stored r =
    on_eq None _ _ refl (on_lt None _ _ (on_eq None _ _ (on_le None _ _ refl refl) (on_eq None _ _ (on_le None _ _ refl refl) (on_le None _ _ refl refl))) (on_le None _ _ refl refl))

refuse-stored : (n : ℕ) (r : List ℕ) → None (refuse n (begin r))
unfolding refuse_at
refuse-stored n r = on_eq None _ _ refl refl

access-stored : (m : List ℕ) (kind a : ℕ) (r : List ℕ) → None (access m kind a (begin r))
unfolding access refuse_at
access-stored m kind a r = on_lt None _ _ refl (on_eq None _ _ refl refl)

-- what was stored before a link advances
abbrev Same : List Store → Work → Type 0
Same ss w = w.stored ≡ ss

advance-stored : (c : ℕ) (w : Work) → (links.advance c w).stored ≡ w.stored
unfolding links.advance links.end_at_zero links.transfer_ends raise lower put
advance-stored c w = on_eq (Same w.stored) _ _ refl refl

pub take-stored : (mem : List ℕ) (c : ℕ) (r : List ℕ) → None (links.take mem c (begin r))
unfolding links.take links.take_byte
take-stored mem c r = on_eq None _ _ (refuse-stored 8 r) (on_eq None _ _ (refuse-stored 8 r) (advance-stored c _ ∙ access-stored mem _ _ r))

pub event-stored : (r : List ℕ) → None (links.event (begin r))
unfolding links.event links.event_meets links.event_holds links.notice_held links.transfer_ends raise lower put
event-stored r = on_eq None _ _ held (on_eq None _ _ held refl)
  where
    held : None (if_set held_bit (get_or r (channel_reg event_channel) 0) (refuse 8 (begin r)) (links.event_holds (begin r)))
    held = on_eq None _ _ (on_eq None _ _ refl refl) (refuse-stored 8 r)

hold-stored : (c byte : ℕ) (r : List ℕ) → None (links.hold c byte (begin r))
unfolding links.hold links.notice_held raise lower put
hold-stored c byte r = on_eq None _ _ refl refl

append-stored : (s : Store) (m : List ℕ) (kind a : ℕ) (r : List ℕ) → index a < length m → (append s (access m kind a (begin r))).stored ≡ s ∷ []
unfolding append
append-stored s m kind a r b = rw (inside-same m kind a (begin r) refl b, yes_eq {a = 0} {b = 0} refl)

-- give: the byte's word, where it is inside memory
pub give_pairs_lem : (mem : List ℕ) (c byte : ℕ) (r : List ℕ) → (is_moving c r ≡ true → index (get_or r (pointer_reg c) 0) < length mem)
    → length (touched (length mem) (links.give mem c byte (begin r)).stored) ≡ give_pairs c r
unfolding links.give links.receive store_byte
give_pairs_lem mem c byte r inside =
    cases_eq (bit_and (get_or r (channel_reg c) 0) active_bit) 0
    (λ e. rw (yes_eq e, yes_eq e) held)
    (λ e. cases_eq (get_or r (count_reg c) 0) 0
    (λ k. rw (no_eq e, no_eq e, yes_eq k, yes_eq k) held)
    (λ k. rw (no_eq e, no_eq e, no_eq k, no_eq k) (stored (inside (rw (no_eq e, no_eq k))))))
  where
    held : length (touched (length mem) (if_set held_bit (get_or r (channel_reg c) 0) (refuse 8 (begin r)) (links.hold c byte (begin r))).stored) ≡ 0
    held = no_pairs _ _ (on_eq None _ _ (hold-stored c byte r) (refuse-stored 8 r))

    v : ℕ
    v = with_byte (selector (get_or r (pointer_reg c) 0)) byte (word_at mem (get_or r (pointer_reg c) 0) (begin r))

    stored : index (get_or r (pointer_reg c) 0) < length mem
        → length (touched (length mem) (links.advance c (append (word (index (get_or r (pointer_reg c) 0)) v) (access mem kind_store (get_or r (pointer_reg c) 0) (begin r)))).stored) ≡ 1
    stored b = rw (advance-stored c (append (word (index (get_or r (pointer_reg c) 0)) v) (access mem kind_store (get_or r (pointer_reg c) 0) (begin r))), append-stored (word (index (get_or r (pointer_reg c) 0)) v) mem kind_store (get_or r (pointer_reg c) 0) r b, touched-one (length mem) (index (get_or r (pointer_reg c) 0)) v b)
