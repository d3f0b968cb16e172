-- What keeps every property of the answer (Fine) keeps a refusal, and what asks nothing of 11 Stops nowhere. So a test of a place tells
-- whether the work there Stops.
use mathlib.Core.Path.{◌≡◌, refl, sym, subst, ◌∙◌}
use mathlib.Core.Logic.{◌↔◌}
use mathlib.Core.Bool.{Bool, true, false, ◌&&◌, ◌||◌, not}
use mathlib.Core.List.{List, [], ◌∷◌}
use Prim.Native.Nat.{ℕ, ◌≤◌, ◌<◌}
use native.Mathlib.Omega.{arith}
use borrow.Author.Tests.{eq-eqb, ne_eqb, le-leb, lt-leb}
use lib.Dec.{eqb}
use lib.ListN.{length}
use Rattle.rules.specs.Words.{index}
use Rattle.rules.specs.Work.{Work, untraced, stop, outside, refuse_at, refuse, access, kind_load, word_at, read_word}
use Rattle.rules.proofs.Tests.{yes_lt, yes_eq, cases_lt, cases_eq}
use Rattle.laws.specs.Alike.{Ordinary}
use Rattle.laws.specs.Ring.{is_outside}
use Rattle.laws.specs.Stops.{going}
use Rattle.laws.proofs.Fine.{Fine, Turns, AnswerIs, never_turns, unnoted, fine-outside}

pub never : {A : Type 0} → ◌≡◌ {A = Bool} false true → A
never e = absurd (let z : ◌≡◌ {A = ℕ} 0 1 = cc in omega arith)

pub neither : (a b : Bool) → (a || b) ≡ false → (a ≡ false) × (b ≡ false)
neither true b e = never (sym e)
neither false b e = (refl, e)

pub and-false : (a : Bool) → (a && false) ≡ false
and-false true = refl
and-false false = refl

-- ---- properties of the answer alone

abbrev pub Answer : (ℕ → Type 0) → ℕ → ℕ → ℕ → Type 0
Answer Q n kind address = Q n

-- a refusal that came first stays
abbrev pub Is : ℕ → ℕ → Type 0
Is n k = k ≡ n

abbrev pub Not : ℕ → ℕ → Type 0
Not n k = k ≡ n → ⊥

pub not_turns : (n k : ℕ) → (k ≡ n → ⊥) → Turns (Answer (Not n)) k
not_turns n k h kind a z kind' address p = h

pub is_fine : (n : ℕ) (w : Work) → Ordinary w → (0 ≡ n → ⊥) → w.answer ≡ n → Fine (Answer (Is n)) w
is_fine n w h z e = record { ordinary = h; known = e; ten = λ k a q kind address low high. absurd (z q) }

pub not_fine : (n : ℕ) (w : Work) → Ordinary w → (outside ≡ n → ⊥) → (w.answer ≡ n → ⊥) → Fine (Answer (Not n)) w
not_fine n w h z e = record { ordinary = h; known = e; ten = λ k a q kind address low high. z }

-- any work of 45 registers
pub any_fine : (w : Work) → Ordinary w → Fine (λ n kind address. Unit {0}) w
any_fine w h = record { ordinary = h; known = tt; ten = λ k a z kind address low high. tt }

-- not refused with Stop
abbrev pub Calm : Work → Type 0
Calm w = Fine (Answer (Not stop)) w

pub calm-none : {w : Work} → Ordinary w → w.answer ≡ 0 → Calm w
calm-none {w} h e = not_fine stop w h (λ q. omega (arith, q)) (λ q. omega (arith, e, q))

-- ---- what keeps every property

-- v comes of w by what keeps every property that each refusal may have
abbrev pub Keeping : Work → Work → Type 1
Keeping w v = (P : ℕ → ℕ → ℕ → Type 0) → ((k : ℕ) → Turns P k) → Fine P w → Fine P v

-- once refused, the number stays
pub refused-stays : (n : ℕ) (w v : Work) → Ordinary w → (0 ≡ n → ⊥) → w.answer ≡ n → Keeping w v → v.answer ≡ n
refused-stays n w v h z e keep = (keep (Answer (Is n)) (λ k kind a q kind' address p. absurd (z q)) (is_fine n w h z e)).known

-- what asks nothing of a number, which is not that of an access outside, turns no answer into it, and takes none away
pub same_number : (n : ℕ) → (0 ≡ n → ⊥) → (outside ≡ n → ⊥) → (w v : Work) → Ordinary w
    → ((P : ℕ → ℕ → ℕ → Type 0) → ((k : ℕ) → (k ≡ n → ⊥) → Turns P k) → Fine P w → Fine P v) → eqb w.answer n ≡ eqb v.answer n
same_number n z t w v h keep =
    cases_eq w.answer n
    (λ e. eq-eqb _ _ e ∙ sym (eq-eqb _ _ (refused-stays n w v h z e (λ P t f. keep P (λ k n. t k) f))))
    (λ e. ne_eqb _ _ e ∙ sym (ne_eqb _ _ (keep (Answer (Not n)) (not_turns n) (not_fine n w h t e)).known))

pub same_stop : (w v : Work) → Ordinary w
    → ((P : ℕ → ℕ → ℕ → Type 0) → ((k : ℕ) → (k ≡ stop → ⊥) → Turns P k) → Fine P w → Fine P v) → eqb w.answer stop ≡ eqb v.answer stop
same_stop w v h keep = same_number stop (λ q. omega (arith, q)) (λ q. omega (arith, q)) w v h keep

-- ---- an access inside memory changes nothing; an access outside is refused for good

module _ (m : List ℕ) (kind a : ℕ) (w : Work) where
  pub inside-same : w.trace ≡ untraced → index a < length m → access m kind a w ≡ w
  unfolding access
  inside-same q h = rw (unnoted ((kind, a) ∷ []) w q) (yes_lt h w (refuse_at outside kind a w))

  -- after an access outside memory, whatever keeps every property is not refused with Stop
  pub outside_calm : Ordinary w → length m ≤ index a → w.answer ≡ 0 → (v : Work) → Keeping (access m kind a w) v → Calm v
  outside_calm h out e v keep =
      let f = keep (AnswerIs outside kind a) (never_turns outside kind a (λ q. omega (arith, q))) (fine-outside m kind a w h e out) in
      not_fine stop v f.ordinary (λ q. omega (arith, q)) (λ q. omega (arith, q, f.known.0))

-- ---- a test of a place tells whether it Stops

-- the work v Stops exactly where the test t holds
abbrev pub Tells : Bool → Work → Type 0
Tells t v = t ≡ eqb v.answer stop

pub tells_calm : {v : Work} → Calm v → Tells false v
tells_calm c = sym (ne_eqb _ _ c.known)

pub tells-stop : (w : Work) → w.answer ≡ 0 → Tells true (refuse stop w)
unfolding refuse_at
tells-stop w e = rw (yes_eq e)

pub tells_iff : (t : Bool) (v : Work) {X : Type 0} → (v.answer ≡ stop) ↔ X → (t ≡ true) ↔ X → Tells t v
tells_iff true v f g = sym (eq-eqb _ _ (f.1 (g.0 refl)))
tells_iff false v f g = sym (ne_eqb _ _ (λ e. never (g.1 (f.0 e))))

-- `◌&&◌` groups to the left
pub regroup : (a b c : Bool) (v : Work) → Tells (a && (b && c)) v → Tells (a && b && c) v
regroup true b c v t = t
regroup false b c v t = t

-- a test that begins with: nothing was refused so far
pub tells-going : (w v : Work) (t : Bool) → Calm w → Keeping w v → (w.answer ≡ 0 → Tells t v) → Tells (going w && t) v
tells-going w v t c keep f =
    cases_eq w.answer 0 (λ e. rw (eq-eqb w.answer 0 e) (f e))
    (λ e. rw (ne_eqb w.answer 0 e) (sym (ne_eqb _ _ (λ q. c.known (sym (refused-stays w.answer w v c.ordinary (λ z. e (sym z)) refl keep) ∙ q)))))

-- and one that begins with: the word that is read is inside memory
pub tells_read : (m : List ℕ) (a : ℕ) (next : ℕ → Work → Work) (w : Work) (t : Bool) → Ordinary w → w.answer ≡ 0
    → Keeping (access m kind_load a w) (read_word m a next w) → Tells t (next (word_at m a w) w) → Tells (not (is_outside m a) && t) (read_word m a next w)
tells_read m a next w t h e keep f =
    cases_lt (index a) (length m)
    (λ b. rw (lt-leb (length m) (index a) b) (subst (λ (x : Work). Tells t (next (word_at m a w) x)) (sym (inside-same m kind_load a w h.1 b)) f))
    (λ b. rw (le-leb (length m) (index a) b) (tells_calm (outside_calm m kind_load a w h b e (read_word m a next w) keep)))
