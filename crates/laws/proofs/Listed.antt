-- Work that lists its accesses: of put, refuse, load, store and move, and of one after the other. The list tells whether the answer is 10, and for
-- which access.
use mathlib.Core.Path.{◌≡◌, refl, sym, ap, subst, ◌∙◌}
use mathlib.Core.List.{List, [], ◌∷◌, ◌++◌, append_assoc, append-nil}
use Prim.Native.Nat.{ℕ, zero, suc, ◌≤◌, ◌<◌}
use native.Mathlib.Omega.{arith}
use lib.ListN.{length}
use Rattle.rules.specs.Words.{index, at_byte}
use Rattle.rules.specs.Memory.{Store}
use Rattle.rules.specs.Work.{Access, Trace, untraced, traced, Work, note, outside, kind_load, kind_store, refuse_at, refuse, append, access, first_outside, up_to_outside, move_outside, move_accesses, move_or_refuse, transfer}
use Rattle.rules.proofs.Tests.{yes_lt, no_lt, yes_eq, no_eq, cases_lt, cases_eq}
use Rattle.laws.specs.Alike.{Ordinary, Unrefused}
use Rattle.laws.specs.Listed.{retrace, AllInside, told_outside, told, Ends, stayed, left, Listed}
use Rattle.laws.proofs.Fine.{Fine, AnswerIs, refused_with_lem}

-- ---- work that lists nothing is itself

pub plain : (w : Work) → w.trace ≡ untraced → retrace untraced w ≡ w
plain w e = sym (ap (λ (t : Trace). retrace t w) e)

pub fine-plain : {P : ℕ → ℕ → ℕ → Type 0} (w : Work) → Fine P w → Fine P (retrace untraced w)
fine-plain {P} w f = subst (Fine P) (sym (plain w f.ordinary.1)) f

pub unrefused-plain : {size : ℕ} (w : Work) → Unrefused size w → Unrefused size (retrace untraced w)
unrefused-plain {size} w u = subst (Unrefused size) (sym (plain w u.ordinary.1)) u

-- ---- lists of accesses, one after the other

all_append : (size : ℕ) (xs ys : List Access) → AllInside size xs → AllInside size ys → AllInside size (xs ++ ys)
all_append size [] ys p q = q
all_append size (x ∷ xs) ys p q = (p.0, all_append size xs ys p.1 q)

ends-append : {size : ℕ} (xs ys : List Access) {n k a : ℕ} → AllInside size xs → Ends size ys n k a → Ends size (xs ++ ys) n k a
ends-append {size} xs ys p (stayed n q) = stayed n (all_append size xs ys p q)
ends-append {size} xs ys {k = k} {a = a} p (left e before q i o) =
    left e (xs ++ before) (ap (λ (l : List Access). xs ++ l) q ∙ sym (append_assoc xs before ((k, a) ∷ []))) (all_append size xs before p i) o

ends_as : {size : ℕ} {xs : List Access} {n k a n' k' a' : ℕ} → n' ≡ n → k' ≡ k → a' ≡ a → Ends size xs n k a → Ends size xs n' k' a'
ends_as e f g x = rw (e, f, g) x

ends_free : {size : ℕ} {xs : List Access} {n k a : ℕ} → n ≡ 0 → Ends size xs n k a → AllInside size xs
ends_free e (stayed n q) = q
ends_free e (left o before q i z) = absurd (omega (arith, e, o))

-- after work that lists its accesses comes other such work; where the first is refused, the second lists nothing and keeps the refusal
pub listed_then : {size : ℕ} (w : Work) (made : List Access) (v v' : Work) (h : Work → Work) (first : Listed size w made v v') → Ordinary v
    → Listed size v (made ++ first.more) (h (retrace untraced v)) (h (retrace (traced (made ++ first.more)) v))
    → ((v.answer ≡ 0 → ⊥) → Fine (AnswerIs v.answer v.kind v.address) (h v)) → ((w.answer ≡ 0 → ⊥) → v.answer ≡ w.answer)
    → Listed size w made (h v) (h v')
listed_then {size} w made v v' h first c second stay still =
    record {
      more = first.more ++ second.more;
      same =
          ap h first.same
          ∙ second.same
          ∙ ap (λ (l : List Access). retrace (traced l) (h (retrace untraced v))) (append_assoc made first.more second.more)
          ∙ ap (λ (u : Work). retrace (traced (made ++ (first.more ++ second.more))) (h u)) (plain v c.1);
      none = λ n. rw (first.none n) (second.none (λ z. n (sym (still n) ∙ z)));
      ends = λ e.
          cases_eq v.answer 0
          (λ z. ends-append first.more second.more (ends_free z (first.ends e))
          (subst (λ (u : Work). Ends size second.more (h u).answer (h u).kind (h u).address) (plain v c.1) (second.ends z)))
          (λ z. let f = (stay z).known in rw (second.none z, append-nil first.more) (ends_as f.0 f.1 f.2 (first.ends e)));
    }

-- ---- what makes no access

module _ {size : ℕ} (w : Work) (made : List Access) where
  -- nothing but registers and stores changes, to u
  pub listed-none : (u : Work) {v v' : Work} → v ≡ retrace untraced u → v' ≡ retrace (traced made) u → u.answer ≡ w.answer → Listed size w made v v'
  listed-none u e e' a =
      record {
        more = [];
        same = e' ∙ ap (λ (l : List Access). retrace (traced l) u) (sym (append-nil made)) ∙ ap (retrace (traced (made ++ []))) (sym e);
        none = λ n. refl;
        ends = λ z. stayed (λ o. omega (arith, z, a, sym (ap (λ (x : Work). x.answer) e) ∙ o)) tt;
      }

  pub listed_same : {v v' : Work} → v ≡ retrace untraced w → v' ≡ retrace (traced made) w → Listed size w made v v'
  listed_same e e' = listed-none w e e' refl

-- refuse what is refused already
refuse-again : (number kind a : ℕ) (w : Work) → (w.answer ≡ 0 → ⊥) → refuse_at number kind a w ≡ w
unfolding refuse_at
refuse-again number kind a w e = no_eq e _ _

pub listed-refuse : {size : ℕ} (number : ℕ) → (number ≡ outside → ⊥) → (w : Work) (made : List Access)
    → Listed size w made (refuse number (retrace untraced w)) (refuse number (retrace (traced made) w))
listed-refuse number n w made =
    cases_eq w.answer 0
    (λ e. rw (refused_with_lem number 0 0 (retrace untraced w) e, refused_with_lem number 0 0 (retrace (traced made) w) e)
    (record {
      more = [];
      same = ap (λ (l : List Access). record { regs = w.regs; stored = w.stored; answer = number; kind = 0; address = 0; trace = traced l }) (sym (append-nil made));
      none = λ z. refl;
      ends = λ z. stayed n tt;
    }))
    (λ e. listed_same w made (refuse-again number 0 0 (retrace untraced w) e) (refuse-again number 0 0 (retrace (traced made) w) e))

pub listed-append : {size : ℕ} (s : Store) (w : Work) (made : List Access) → Listed size w made (append s (retrace untraced w)) (append s (retrace (traced made) w))
unfolding append
listed-append s w made =
    cases_eq w.answer 0
    (λ e. listed-none w made (record { regs = w.regs; stored = w.stored ++ (s ∷ []); answer = w.answer; kind = w.kind; address = w.address; trace = w.trace }) (yes_eq e _ _) (yes_eq e _ _) refl)
    (λ e. listed_same w made (no_eq e _ _) (no_eq e _ _))

-- ---- accesses

-- note accesses in a list, unless refused
noted : (more : List Access) (w : Work) (made : List Access) → w.answer ≡ 0 → note more (retrace (traced made) w) ≡ retrace (traced (made ++ more)) w
noted more w made e = ap (λ (l : List Access). retrace (traced l) w) (yes_eq e (made ++ more) made)

unnoted-refused : (more : List Access) (w : Work) (made : List Access) → (w.answer ≡ 0 → ⊥) → note more (retrace (traced made) w) ≡ retrace (traced made) w
unnoted-refused more w made e = ap (λ (l : List Access). retrace (traced l) w) (no_eq e (made ++ more) made)

pub listed-access : (m : List ℕ) (kind a : ℕ) (w : Work) (made : List Access)
    → Listed (length m) w made (access m kind a (retrace untraced w)) (access m kind a (retrace (traced made) w))
unfolding access
listed-access m kind a w made =
    cases_eq w.answer 0
    (λ e. rw (noted ((kind, a) ∷ []) w made e)
    (cases_lt (index a) (length m)
    (λ h. rw (yes_lt h, yes_lt h)
    (record { more = (kind, a) ∷ []; same = refl; none = λ n. absurd (n e); ends = λ z. stayed (λ o. omega (arith, e, o)) (h, tt) }))
    (λ h. rw (no_lt h, no_lt h, refused_with_lem outside kind a (retrace untraced w) e, refused_with_lem outside kind a (retrace (traced (made ++ ((kind, a) ∷ []))) w) e)
    (record { more = (kind, a) ∷ []; same = refl; none = λ n. absurd (n e); ends = λ z. left refl [] refl tt h }))))
    (λ e. rw (unnoted-refused ((kind, a) ∷ []) w made e)
    (cases_lt (index a) (length m)
    (λ h. rw (yes_lt h, yes_lt h) (listed_same w made refl refl))
    (λ h. rw (no_lt h, no_lt h) (listed_same w made (refuse-again outside kind a (retrace untraced w) e) (refuse-again outside kind a (retrace (traced made) w) e)))))

-- the accesses of a move: all are inside memory, or the last is the first outside
data Moved (m : List ℕ) (s d n : ℕ) : Type 0 where
  whole : (move_outside m s d n).0 ≡ 0 → AllInside (length m) (up_to_outside m (move_accesses s d n)) → Moved m s d n
  broken : ((move_outside m s d n).0 ≡ 0 → ⊥) → (before : List Access) → up_to_outside m (move_accesses s d n) ≡ before ++ (move_outside m s d n ∷ []) → AllInside (length m) before
      → length m ≤ index (move_outside m s d n).1 → Moved m s d n

moved : (m : List ℕ) (s d n : ℕ) → Moved m s d n
unfolding move_outside move_accesses first_outside up_to_outside
moved m s d zero = whole refl tt
moved m s d (suc n) =
    cases_lt (index s) (length m)
    (λ a. cases_lt (index d) (length m)
    (λ b. on a b (moved m (at_byte s 1) (at_byte d 1) n))
    (λ b. broken (λ z. omega (arith, rw (yes_lt a, no_lt b) at z)) ((kind_load, s) ∷ []) (rw (yes_lt a, no_lt b, yes_lt a, no_lt b)) (a, tt) (rw (yes_lt a, no_lt b) b)))
    (λ a. broken (λ z. omega (arith, rw (no_lt a) at z)) [] (rw (no_lt a, no_lt a)) tt (rw (no_lt a) a))
  where
    on : index s < length m → index d < length m → Moved m (at_byte s 1) (at_byte d 1) n → Moved m s d (suc n)
    on a b (whole e i) = whole (rw (yes_lt a, yes_lt b) e) (rw (yes_lt a, yes_lt b) (a, (b, i)))
    on a b (broken e before q i o) =
        broken (rw (yes_lt a, yes_lt b) e) ((kind_load, s) ∷ (kind_store, d) ∷ before)
        (rw (yes_lt a, yes_lt b, yes_lt a, yes_lt b) (ap (λ (l : List Access). (kind_load, s) ∷ (kind_store, d) ∷ l) q)) (a, (b, i)) (rw (yes_lt a, yes_lt b) o)

pub listed-transfer : (m : List ℕ) (s d n : ℕ) (w : Work) (made : List Access)
    → Listed (length m) w made (transfer m s d n (retrace untraced w)) (transfer m s d n (retrace (traced made) w))
unfolding transfer move_or_refuse append
listed-transfer m s d n w made =
    cases_eq n 0
    (λ z. rw (yes_eq z, yes_eq z) (listed_same w made refl refl))
    (λ z. cases_eq w.answer 0
    (λ e. rw (no_eq z, no_eq z) (subst moves (sym (noted (up_to_outside m (move_accesses s d n)) w made e)) (go e (moved m s d n))))
    (λ e. rw (no_eq z, no_eq z) (subst moves (sym (unnoted-refused (up_to_outside m (move_accesses s d n)) w made e)) (refused_move e))))
  where
    first : Access
    first = move_outside m s d n

    moves : Work → Type 0
    moves v = Listed (length m) w made (move_or_refuse m first s d n (retrace untraced w)) (move_or_refuse m first s d n v)

    go : w.answer ≡ 0 → Moved m s d n
        → Listed (length m) w made (move_or_refuse m first s d n (retrace untraced w)) (move_or_refuse m first s d n (retrace (traced (made ++ up_to_outside m (move_accesses s d n))) w))
    go e (whole q i) =
        rw (yes_eq q, yes_eq q, yes_eq e, yes_eq e)
        (record { more = up_to_outside m (move_accesses s d n); same = refl; none = λ n. absurd (n e); ends = λ z. stayed (λ o. omega (arith, e, o)) i })
    go e (broken q before p i o) =
        rw (no_eq q, no_eq q, refused_with_lem outside first.0 first.1 (retrace untraced w) e, refused_with_lem outside first.0 first.1 (retrace (traced (made ++ up_to_outside m (move_accesses s d n))) w) e)
        (record { more = up_to_outside m (move_accesses s d n); same = refl; none = λ n. absurd (n e); ends = λ z. left refl before p i o })

    refused_move : (w.answer ≡ 0 → ⊥) → Listed (length m) w made (move_or_refuse m first s d n (retrace untraced w)) (move_or_refuse m first s d n (retrace (traced made) w))
    refused_move e =
        cases_eq first.0 0
        (λ q. rw (yes_eq q, yes_eq q, no_eq e, no_eq e) (listed_same w made refl refl))
        (λ q. rw (no_eq q, no_eq q) (listed_same w made (refuse-again outside first.0 first.1 (retrace untraced w) e) (refuse-again outside first.0 first.1 (retrace (traced made) w) e)))

-- the first access outside memory of a list is the one that refused the work
pub first_ends : (m : List ℕ) (xs : List Access) (w : Work) → Ends (length m) xs w.answer w.kind w.address → first_outside m xs ≡ told_outside (told w)
unfolding first_outside
first_ends m xs w (stayed n i) = all-inside xs i ∙ sym (no_eq n (w.kind, w.address) (0, 0))
  where
    all-inside : (ys : List Access) → AllInside (length m) ys → first_outside m ys ≡ (0, 0)
    all-inside [] i = refl
    all-inside (y ∷ ys) i = rw (yes_lt i.0) (all-inside ys i.1)
first_ends m xs w (left e before q i o) = ap (first_outside m) q ∙ last-outside before i ∙ sym (yes_eq e (w.kind, w.address) (0, 0))
  where
    last-outside : (ys : List Access) → AllInside (length m) ys → first_outside m (ys ++ ((w.kind, w.address) ∷ [])) ≡ (w.kind, w.address)
    last-outside [] i = rw (no_lt o)
    last-outside (y ∷ ys) i = rw (yes_lt i.0) (last-outside ys i.1)
