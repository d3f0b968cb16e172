-- The places of an instruction read neither Iptr nor Oreg, so their tests are the same after the fetch as at the step's start.
use mathlib.Core.Path.{◌≡◌, refl, sym, ap, ◌∙◌}
use mathlib.Core.Bool.{true}
use mathlib.Core.List.{List, [], ◌∷◌}
use Prim.Native.Nat.{ℕ, ◌+◌, ◌≤◌}
use native.Mathlib.Omega.{arith}
use lib.Dec.{eqb}
use lib.ListN.{length}
use lib.Seq.{get_or-set_other, set_comm}
use Rattle.rules.specs.Tests.{pick, look}
use Rattle.rules.specs.Words.{at_byte, at_word, index, clear_bits}
use Rattle.rules.specs.Core.{wptr_of}
use Rattle.rules.specs.Registers.{iptr_reg, wdesc_reg, areg, breg, creg, oreg, clock_reg, flags_reg, t_enabled}
use Rattle.rules.specs.Memory.{Store, word}
use Rattle.rules.specs.Work.{Work, note, reg, put, lower, wptr, priority, append, access, refuse_at, outside, word_at, kind_load, kind_store, store_word, r_index_word, w_index_word}
use Rattle.rules.specs.Scheduling.{waiting, none_selected, state_s, tlink_s, time_s}
use Rattle.rules.specs.Timers.{tptr_loc, next_time}
use Rattle.rules.specs.Step.{fetched}
use Rattle.rules.proofs.Tests.{yes_lt, no_lt, yes_eq, no_eq, cases_lt, cases_eq}
use Rattle.laws.specs.Ring.{comes_again, is_outside, next_pointer, insert_ends, delete_ends, insert_rings, delete_rings}
use Rattle.laws.specs.Stops.{Place, shift_stops, long_shift_stops, insert_started, insert_stops, delete_stops, unmarked, enbt_stops, tin_stops, dist_stops, state_loaded, link_loaded, mark_stops, taltwt_stops, stop_places, nowhere}
use Rattle.laws.proofs.Rows.{none, ◌&◌, look_rows}

-- register i is one that no place reads: Iptr or Oreg
module _ (i x : ℕ) (apart : (k : ℕ) → 1 ≤ k → (k ≡ oreg → ⊥) → k ≡ i → ⊥) (m : List ℕ) where
  -- ---- what is done to the others and to memory goes past it

  reg_past : (k : ℕ) (w : Work) → 1 ≤ k → (k ≡ oreg → ⊥) → reg k (put i x w) ≡ reg k w
  unfolding put
  reg_past k w h n = get_or-set_other w.regs i k x 0 (apart k h n)

  put_past : (k v : ℕ) (w : Work) → 1 ≤ k → (k ≡ oreg → ⊥) → put k v (put i x w) ≡ put i x (put k v w)
  unfolding put
  put_past k v w h n = ap (λ (l : List ℕ). record { regs = l; stored = w.stored; answer = w.answer; kind = w.kind; address = w.address; trace = w.trace }) (set_comm w.regs i k x v (λ e. apart k h n (sym e)))

  refuse_past : (number kind a : ℕ) (w : Work) → refuse_at number kind a (put i x w) ≡ put i x (refuse_at number kind a w)
  unfolding refuse_at put
  refuse_past number kind a w =
      cases_eq w.answer 0
      (λ e. rw (yes_eq e, yes_eq e))
      (λ e. rw (no_eq e, no_eq e))

  access_past : (kind a : ℕ) (w : Work) → access m kind a (put i x w) ≡ put i x (access m kind a w)
  unfolding access put
  access_past kind a w =
      cases_lt (index a) (length m)
      (λ h. rw (yes_lt h, yes_lt h))
      (λ h. rw (no_lt h, no_lt h) (refuse_past outside kind a (note ((kind, a) ∷ []) w)))

  append_past : (s : Store) (w : Work) → append s (put i x w) ≡ put i x (append s w)
  unfolding append put
  append_past s w =
      cases_eq w.answer 0
      (λ e. rw (yes_eq e, yes_eq e))
      (λ e. rw (no_eq e, no_eq e))

  word_past : (a : ℕ) (w : Work) → word_at m a (put i x w) ≡ word_at m a w
  unfolding word_at put
  word_past a w = refl

  store_past : (base n v : ℕ) (w : Work) → w_index_word m base n v (put i x w) ≡ put i x (w_index_word m base n v w)
  unfolding w_index_word store_word
  store_past base n v w = rw (access_past kind_store (at_word base n) w) (append_past (word (index (at_word base n)) v) (access m kind_store (at_word base n) w))

  load_past : (base n k : ℕ) (w : Work) → 1 ≤ k → (k ≡ oreg → ⊥) → r_index_word m base n k (put i x w) ≡ put i x (r_index_word m base n k w)
  unfolding r_index_word
  load_past base n k w h d =
      rw (access_past kind_load (at_word base n) w, word_past (at_word base n) w) (put_past k (word_at m (at_word base n) w) (access m kind_load (at_word base n) w) h d)

  a_past : (w : Work) → reg areg (put i x w) ≡ reg areg w
  a_past w = reg_past areg w (omega arith) (λ e. omega (arith, e))

  b_past : (w : Work) → reg breg (put i x w) ≡ reg breg w
  b_past w = reg_past breg w (omega arith) (λ e. omega (arith, e))

  c_past : (w : Work) → reg creg (put i x w) ≡ reg creg w
  c_past w = reg_past creg w (omega arith) (λ e. omega (arith, e))

  wdesc_past : (w : Work) → reg wdesc_reg (put i x w) ≡ reg wdesc_reg w
  wdesc_past w = reg_past wdesc_reg w (omega arith) (λ e. omega (arith, e))

  clock_past : (level : ℕ) (w : Work) → reg (clock_reg level) (put i x w) ≡ reg (clock_reg level) w
  clock_past level w = reg_past (clock_reg level) w (omega arith) (λ e. omega (arith, e))

  -- ---- the places

  started_past : (w : Work) → insert_started m (put i x w) ≡ put i x (insert_started m w)
  started_past w =
      rw (wdesc_past w, a_past w, store_past (wptr w) state_s waiting w)
      (store_past (wptr w) time_s (reg areg w) (w_index_word m (wptr w) state_s waiting w))

  answer_past : (w : Work) → (put i x w).answer ≡ w.answer
  unfolding put
  answer_past w = refl

  insert_rings_past : (time p : ℕ) (w : Work) → insert_rings m (put i x w) time p ≡ insert_rings m w time p
  unfolding insert_rings insert_ends word_at put
  insert_rings_past time p w = refl

  delete_rings_past : (p : ℕ) (w : Work) → delete_rings m (put i x w) p ≡ delete_rings m w p
  unfolding delete_rings delete_ends word_at put
  delete_rings_past p w =
      ap (λ (d : ℕ). comes_again (next_pointer m w) (λ q. pick (eqb q (wptr_of d)) true (is_outside m (at_word q tlink_s))) (length m + 2) [] p)
      (get_or-set_other w.regs i wdesc_reg x 0 (apart wdesc_reg (omega arith) (λ e. omega (arith, e))))

  insert_past : (w : Work) → insert_stops m (put i x w) ≡ insert_stops m w
  unfolding insert_stops
  insert_past w =
      let u = insert_started m w in
      rw (started_past w, wdesc_past w, a_past w, word_past (tptr_loc (priority w)) u, insert_rings_past (reg areg w) (word_at m (tptr_loc (priority w)) u) u, answer_past u)

  delete_past : (w : Work) → delete_stops m (put i x w) ≡ delete_stops m w
  unfolding delete_stops lower
  delete_past w =
      let off = put flags_reg (clear_bits (t_enabled (priority w)) (reg flags_reg w)) w in
      rw (
        wdesc_past w,
        reg_past flags_reg w (omega arith) (λ e. omega (arith, e)),
        put_past flags_reg (clear_bits (t_enabled (priority w)) (reg flags_reg w)) w (omega arith) (λ e. omega (arith, e)),
        word_past (tptr_loc (priority w)) off,
        delete_rings_past (word_at m (tptr_loc (priority w)) off) off,
      )

  unmarked_past : (w : Work) → unmarked m (put i x w) ≡ unmarked m w
  unfolding unmarked
  unmarked_past w = rw (wdesc_past w, word_past (at_word (wptr w) tlink_s) w)

  shift_past : (w : Work) → shift_stops m (put i x w) ≡ shift_stops m w
  shift_past w = rw (a_past w)

  long_shift_past : (w : Work) → long_shift_stops m (put i x w) ≡ long_shift_stops m w
  long_shift_past w = rw (a_past w)

  enbt_past : (w : Work) → enbt_stops m (put i x w) ≡ enbt_stops m w
  unfolding enbt_stops
  enbt_past w = rw (a_past w, unmarked_past w)

  dist_past : (w : Work) → dist_stops m (put i x w) ≡ dist_stops m w
  unfolding dist_stops
  dist_past w = rw (b_past w, unmarked_past w, delete_past w)

  tin_past : (w : Work) → tin_stops m (put i x w) ≡ tin_stops m w
  unfolding tin_stops next_time
  tin_past w =
      rw (wdesc_past w, a_past w, clock_past (priority w) w, put_past areg (at_byte (reg areg w) 1) w (omega arith) (λ e. omega (arith, e)), insert_past (put areg (at_byte (reg areg w) 1) w))

  mark_past : (w : Work) → mark_stops m (put i x w) ≡ mark_stops m w
  unfolding mark_stops
  mark_past w =
      rw (b_past w, wdesc_past w, load_past (wptr w) time_s areg w (omega arith) (λ e. omega (arith, e)), tin_past (r_index_word m (wptr w) time_s areg w), answer_past w)

  state_past : (w : Work) → state_loaded m (put i x w) ≡ put i x (state_loaded m w)
  state_past w =
      rw (wdesc_past w, store_past (wptr w) 0 none_selected w) (load_past (wptr w) state_s creg (w_index_word m (wptr w) 0 none_selected w) (omega arith) (λ e. omega (arith, e)))

  taltwt_past : (w : Work) → taltwt_stops m (put i x w) ≡ taltwt_stops m w
  unfolding taltwt_stops
  taltwt_past w =
      let u = state_loaded m w in
      rw (state_past w, c_past u, wdesc_past u, load_past (wptr u) tlink_s breg u (omega arith) (λ e. omega (arith, e)), mark_past (link_loaded m u))

  abbrev Past : ℕ → Place → Type 0
  Past code p = (w : Work) → p m (put i x w) ≡ p m w

  place_past : (code : ℕ) → Past code (look stop_places code nowhere)
  place_past code =
      look_rows Past stop_places (tin_past & dist_past & long_shift_past & long_shift_past & shift_past & shift_past & enbt_past & taltwt_past & none)
      code nowhere (λ l w. refl)

pub place-fetched : (code byte : ℕ) (m : List ℕ) (w : Work) → look stop_places code nowhere m (fetched byte w) ≡ look stop_places code nowhere m w
unfolding fetched
place-fetched code byte m w =
    place_past oreg _ (λ k h n. n) m code (put iptr_reg (at_byte (reg iptr_reg w) 1) w)
    ∙ place_past iptr_reg _ (λ k h n e. omega (arith, h, e)) m code w
