-- Fine work is ordinary: it has 45 registers and lists no accesses; and its answer, with the kind and address of its access, has a property P: to be one of 01's numbers, say, or not to be 9.
-- P must turn from no refusal to 10b and 10c, since any load or store may be outside. What refuses with another number, or fetches, asks the same of that.
use mathlib.Core.Path.{◌≡◌, refl, sym, ap, subst, ◌∙◌}
use mathlib.Core.List.{List, [], ◌∷◌}
use Prim.Native.Nat.{ℕ, zero, suc, ◌≤◌}
use native.Mathlib.Omega.{arith}
use lib.ListN.{length, length-set}
use Rattle.rules.specs.Words.{index, at_byte}
use Rattle.rules.specs.Registers.{registers, with_core, with_system}
use Rattle.rules.specs.Memory.{Store}
use Rattle.rules.specs.Work.{Access, Trace, untraced, trace_more, Work, kind_fetch, kind_load, kind_store, move_outside, begin, note, move_accesses, first_outside, up_to_outside, put, put_core, put_system, outside, refuse_at, refuse, append, access, move_or_refuse, transfer}
use Rattle.rules.specs.declared.Core.{Core}
use Rattle.rules.specs.declared.System.{System}
use Rattle.laws.specs.Alike.{Ordinary}
use Rattle.laws.specs.Answers.{Proper, Known}
use Rattle.laws.specs.Listed.{retrace}
use Rattle.rules.proofs.Tests.{yes_lt, no_lt, yes_eq, no_eq, cases_lt, cases_eq, on_lt, on_eq}

-- work that lists no accesses notes none
pub unnoted : (more : List Access) (w : Work) → w.trace ≡ untraced → note more w ≡ w
unnoted more w e = ap (λ (t : Trace). retrace (trace_more w.answer more t) w) e ∙ sym (ap (λ (t : Trace). retrace t w) e)

-- P turns from no refusal to any refusal with this number
abbrev pub Turns : (ℕ → ℕ → ℕ → Type 0) → ℕ → Type 0
Turns P number = (k a : ℕ) → P 0 k a → (kind address : ℕ) → Proper number kind address → P number kind address

-- P turns from no refusal to a load or a store outside memory
abbrev pub Accessing : (ℕ → ℕ → ℕ → Type 0) → Type 0
Accessing P = (k a : ℕ) → P 0 k a → (kind address : ℕ) → kind_load ≤ kind → kind ≤ kind_store → P outside kind address

pub record Fine (P : ℕ → ℕ → ℕ → Type 0) (w : Work) : Type 0 where
  pub ordinary : Ordinary w
  pub known : P w.answer w.kind w.address
  pub ten : Accessing P

-- 10 with the kind of an access, and another number without one
pub proper-access : (kind a : ℕ) → kind_fetch ≤ kind → kind ≤ kind_store → Proper outside kind a
proper-access kind a low high = record { parts = λ e. (low, high); bare = λ e. absurd (e refl) }

pub proper-refuse : (number : ℕ) → (number ≡ outside → ⊥) → Proper number 0 0
proper-refuse number n = record { parts = λ e. absurd (n e); bare = λ e. (refl, refl) }

pub turns-known : (number : ℕ) → number ≤ 12 → Turns Known number
turns-known number h k a z kind address p = record { most = h; proper = p }

pub accessing_turns : (P : ℕ → ℕ → ℕ → Type 0) → Turns P outside → Accessing P
accessing_turns P t k a z kind address low high = t k a z kind address (proper-access kind address (omega (arith, low)) high)

pub fine-begin : (r : List ℕ) → length r ≡ registers → Fine Known (begin r)
fine-begin r h = record { ordinary = (h, refl); known = record { most = omega arith; proper = proper-refuse 0 (λ e. omega (arith, e)) }; ten = accessing_turns Known (turns-known outside (omega arith)) }

pub length-with_core : (s : Core) (r : List ℕ) → length (with_core s r) ≡ length r
unfolding with_core
length-with_core s r = simp length-set

length-with_system : (y : System) (r : List ℕ) → length (with_system y r) ≡ length r
unfolding with_system
length-with_system y r = simp length-set

-- the first access of a move outside memory is a load or a store
move-kind : (m : List ℕ) (source destination n : ℕ) → ((move_outside m source destination n).0 ≡ 0 → ⊥)
    → (kind_load ≤ (move_outside m source destination n).0) × ((move_outside m source destination n).0 ≤ kind_store)
unfolding move_outside move_accesses first_outside
move-kind m source destination zero n = absurd (n refl)
move-kind m source destination (suc k) n =
    cases_lt (index source) (length m)
    (λ a. cases_lt (index destination) (length m)
    (λ b. rw (yes_lt a, yes_lt b) (move-kind m (at_byte source 1) (at_byte destination 1) k (rw (yes_lt a, yes_lt b) at n)))
    (λ b. rw (yes_lt a, no_lt b) (omega arith)))
    (λ a. rw (no_lt a) (omega arith))

module _ {P : ℕ → ℕ → ℕ → Type 0} where
  pub fine-put : (k v : ℕ) {w : Work} → Fine P w → Fine P (put k v w)
  unfolding put
  fine-put k v {w} f = record { ordinary = (length-set w.regs k v ∙ f.ordinary.0, f.ordinary.1); known = f.known; ten = f.ten }

  pub fine-put_core : (s : Core) {w : Work} → Fine P w → Fine P (put_core s w)
  unfolding put_core
  fine-put_core s {w} f = record { ordinary = (length-with_core s w.regs ∙ f.ordinary.0, f.ordinary.1); known = f.known; ten = f.ten }

  pub fine-put_system : (y : System) {w : Work} → Fine P w → Fine P (put_system y w)
  unfolding put_system
  fine-put_system y {w} f = record { ordinary = (length-with_system y w.regs ∙ f.ordinary.0, f.ordinary.1); known = f.known; ten = f.ten }

  -- ---- refusals, stores

  pub fine-refuse_at : (number kind address : ℕ) → ((k a : ℕ) → P 0 k a → P number kind address) → {w : Work} → Fine P w → Fine P (refuse_at number kind address w)
  unfolding refuse_at
  fine-refuse_at number kind address h {w} f =
      cases_eq w.answer 0
      (λ e. rw (yes_eq e) (record { ordinary = f.ordinary; known = h _ _ (subst (λ (n : ℕ). P n w.kind w.address) e f.known); ten = f.ten }))
      (λ e. rw (no_eq e) f)

  pub fine-refuse : (number : ℕ) → (number ≡ outside → ⊥) → Turns P number → {w : Work} → Fine P w → Fine P (refuse number w)
  fine-refuse number n h f = fine-refuse_at number 0 0 (λ k a z. h k a z 0 0 (proper-refuse number n)) f

  pub fine-append : (s : Store) {w : Work} → Fine P w → Fine P (append s w)
  unfolding append
  fine-append s f = on_eq (Fine P) _ _ (record { ordinary = f.ordinary; known = f.known; ten = f.ten }) f

  -- ---- accesses

  -- an access, where P turns to its refusal
  pub fine-access : (m : List ℕ) (kind a : ℕ) → ((k b : ℕ) → P 0 k b → P outside kind a) → {w : Work} → Fine P w → Fine P (access m kind a w)
  unfolding access
  fine-access m kind a h {w} f = rw (unnoted ((kind, a) ∷ []) w f.ordinary.1) (on_lt (Fine P) _ _ f (fine-refuse_at _ _ _ h f))

  pub fine_load : (m : List ℕ) (a : ℕ) {w : Work} → Fine P w → Fine P (access m kind_load a w)
  fine_load m a f = fine-access m kind_load a (λ k b z. f.ten k b z kind_load a (omega arith) (omega arith)) f

  pub fine-transfer : (m : List ℕ) (source destination n : ℕ) {w : Work} → Fine P w → Fine P (transfer m source destination n w)
  unfolding transfer move_or_refuse
  fine-transfer m source destination n {w} f =
      rw (unnoted (up_to_outside m (move_accesses source destination n)) w f.ordinary.1)
      (on_eq (Fine P) _ _ f
      (cases_eq (move_outside m source destination n).0 0
      (λ e. rw (yes_eq e) (fine-append _ f))
      (λ e. let k = move-kind m source destination n e in rw (no_eq e) (fine-refuse_at _ _ _ (λ i a z. f.ten i a z _ _ k.0 k.1) f))))

-- ---- the first refusal stays, with the kind and address of its access

abbrev pub AnswerIs : ℕ → ℕ → ℕ → ℕ → ℕ → ℕ → Type 0
AnswerIs n k a number kind address = (number ≡ n) × (kind ≡ k) × (address ≡ a)

pub never_turns : (n k a : ℕ) → (n ≡ 0 → ⊥) → (number : ℕ) → Turns (AnswerIs n k a) number
never_turns n k a h number k' a' z kind address p = absurd (h (sym z.0))

pub never_accessing : (n k a : ℕ) → (n ≡ 0 → ⊥) → Accessing (AnswerIs n k a)
never_accessing n k a h k' a' z kind address low high = absurd (h (sym z.0))

pub refused_with_lem : (number kind a : ℕ) (w : Work) → w.answer ≡ 0
    → refuse_at number kind a w ≡ record { regs = w.regs; stored = w.stored; answer = number; kind = kind; address = a; trace = w.trace }
unfolding refuse_at
refused_with_lem number kind a w e = rw (yes_eq e)

-- refuse an access outside memory
pub fine-outside : (mem : List ℕ) (kind a : ℕ) (w : Work) → Ordinary w → w.answer ≡ 0 → length mem ≤ index a
    → Fine (AnswerIs outside kind a) (access mem kind a w)
unfolding access
fine-outside mem kind a w c e h =
    rw (unnoted ((kind, a) ∷ []) w c.1, no_lt h, refused_with_lem outside kind a w e)
    (record { ordinary = c; known = (refl, refl, refl); ten = never_accessing outside kind a (λ z. omega (arith, z)) })
