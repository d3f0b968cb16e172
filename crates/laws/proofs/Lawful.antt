-- THE THREE LAWS of the definitions. First: work stays fine, so the registers stay 45 and the first refusal stays. Second: in a memory, and in that memory with
-- words appended, the results are alike. Third: work that lists its accesses does the same, and its list tells the answer (Listed). This file proves the laws
-- of put, refuse, load, store and move; each chapter composes these.
use mathlib.Core.Path.{◌≡◌, refl, sym, subst, ◌∙◌}
use mathlib.Core.Bool.{Bool, true, false}
use mathlib.Core.List.{List, ◌++◌}
use Prim.Native.Nat.{ℕ, zero, suc, ◌+◌, ◌*◌, ◌^◌, ◌≤◌, ◌<◌}
use native.Mathlib.Omega.{arith}
use lib.Dec.{ltb, leb, eqb}
use lib.ListN.{length, length-append}
use Rattle.rules.specs.Tests.{pick, if_lt, if_le, if_eq}
use Rattle.rules.specs.Words.{index, offset, selector, at_byte, at_word, byte_of, with_byte}
use Rattle.rules.specs.Memory.{Store, word, bytes}
use Rattle.rules.specs.Work.{Access, Trace, untraced, traced, Work, put, raise, lower, goto_snp, put_core, put_system, put_both, outside, stop, kind_fetch, kind_load, kind_store, refuse, append, attempted, word_at, byte_at, access, fetch_byte, read_word, store_word, store_byte, r_index_word, r_index_byte, w_index_word, first_outside, up_to_outside, move_accesses, move_outside, move_or_refuse, transfer}
use Rattle.rules.specs.declared.Core.{Core}
use Rattle.std.specs.Prelude.{Option, Some, None}
use Rattle.rules.specs.declared.Both.{Both}
use Rattle.rules.proofs.Tests.{yes_lt, no_lt, yes_eq, no_eq, cases_lt, cases_eq}
use Rattle.laws.specs.Alike.{Ordinary, StoreInside, Unrefused, Alike, beyond, refused, same}
use Rattle.laws.specs.Listed.{retrace, Listed}
use Rattle.laws.proofs.Fine.{Fine, Turns, Accessing, AnswerIs, never_turns, never_accessing, proper-access, unnoted, refused_with_lem, fine-outside, fine-put, fine-put_core, fine-put_system, fine-refuse, fine-append, fine-access, fine-transfer}
use Rattle.laws.proofs.Calm.{any_fine, inside-same}
use Rattle.laws.proofs.Listed.{plain, fine-plain, unrefused-plain, listed_then, listed_same, listed-none, listed-refuse, listed-access, listed-append, listed-transfer}
use Rattle.laws.proofs.Appended.{word-appended, inside_snoc}

-- `Lawful A w f`: the definition that makes f t mem of w with the trace t, in the memory mem, keeps the three laws. A are the numbers that it may refuse
-- with; 10 is among them where it fetches
pub record Lawful (A : ℕ → Type 0) (w : Work) (f : Trace → List ℕ → Work) : Type 1 where
  pub keeps : (P : ℕ → ℕ → ℕ → Type 0) → ((n : ℕ) → A n → Turns P n) → (mem : List ℕ) → Fine P w → Fine P (f untraced mem)
  pub alike : (m x : List ℕ) → length m < 2 ^ 30 → Unrefused (length m) w → Alike (length m) (f untraced m) (f untraced (m ++ x))
  pub lists : (mem : List ℕ) → Ordinary w → (made : List Access) → Listed (length mem) w made (f untraced mem) (f (traced made) mem)

-- keep the laws from any work
pub record Law (A : ℕ → Type 0) (h : List ℕ → Work → Work) : Type 1 where
  pub at : (w : Work) → Lawful A w (λ t mem. h mem (retrace t w))

pub law : {A : ℕ → Type 0} {h : List ℕ → Work → Work} → ((w : Work) → Lawful A w (λ t mem. h mem (retrace t w))) → Law A h
law l = record { at = l }

-- apply the first law to one property of the answer
pub kept : {P : ℕ → ℕ → ℕ → Type 0} {h : List ℕ → Work → Work} → Law (Turns P) h → (m : List ℕ) {w : Work} → Fine P w → Fine P (h m w)
kept {P} {h} l m {w} f = subst (λ (v : Work). Fine P (h m v)) (plain w f.ordinary.1) ((l.at w).keeps P (λ n t. t) m f)

module _ {A : ℕ → Type 0} where
  -- ---- one after the other

  -- once refused, the refusal stays
  stays : {h : List ℕ → Work → Work} → Law A h → (mem : List ℕ) (w : Work) → (w.answer ≡ 0 → ⊥) → Ordinary w
      → Fine (AnswerIs w.answer w.kind w.address) (h mem w)
  stays {h} l mem w n c =
      subst (λ (v : Work). Fine (AnswerIs w.answer w.kind w.address) (h mem v)) (plain w c.1)
      ((l.at w).keeps (AnswerIs _ _ _) (λ k z. never_turns w.answer w.kind w.address n k) mem (record { ordinary = c; known = (refl, refl, refl); ten = never_accessing _ _ _ n }))

  -- lift the second law from the same work to works that are alike
  lift : {h : List ℕ → Work → Work} → Law A h → (m x : List ℕ) → length m < 2 ^ 30 → {w w' : Work} → Alike (length m) w w' → Alike (length m) (h m w) (h (m ++ x) w')
  lift l m x small {w} {w'} (beyond e c t) =
      let f = stays l m w (λ z. omega (arith, z, e)) c in
      beyond (f.known.0 ∙ e) f.ordinary (record { least = rw f.known.1 t.least; most = rw f.known.1 t.most; away = rw f.known.2 t.away })
  lift l m x small {w} {w'} (refused n o e c c') =
      let f = stays l m w n c in
      let f' = stays l (m ++ x) w' (λ z. n (e ∙ z)) c' in
      refused (λ z. n (sym f.known.0 ∙ z)) (λ z. o (sym f.known.0 ∙ z)) (f.known.0 ∙ e ∙ sym f'.known.0) f.ordinary f'.ordinary
  lift {h} l m x small {w} (same e u) =
      subst (λ (v : Work). Alike (length m) (h m w) (h (m ++ x) v)) e
      (subst (λ (v : Work). Alike (length m) (h m v) (h (m ++ x) v)) (plain w u.ordinary.1) ((l.at w).alike m x small u))

  infixl 5 ◌then◌
  pub ◌then◌ : {w : Work} {f : Trace → List ℕ → Work} {h : List ℕ → Work → Work} → Lawful A w f → Law A h → Lawful A w (λ t mem. h mem (f t mem))
  ◌then◌ {w} {f} {h} g l =
      record {
        keeps = λ P t mem z. let y = g.keeps P t mem z in subst (λ (v : Work). Fine P (h mem v)) (plain (f untraced mem) y.ordinary.1) ((l.at (f untraced mem)).keeps P t mem y);
        alike = λ m x small u. lift l m x small (g.alike m x small u);
        lists = λ mem c made.
            let first = g.lists mem c made in
            let whole = (g.keeps (λ n k a. Unit {0}) (λ n z k a y kind address p. tt) mem (any_fine w c)).ordinary in
            listed_then w made (f untraced mem) (f (traced made) mem) (h mem) first whole ((l.at (f untraced mem)).lists mem whole (made ++ first.more)) (λ n. stays l mem (f untraced mem) n whole)
            (λ n. (g.keeps (AnswerIs w.answer w.kind w.address) (λ k z. never_turns _ _ _ n k) mem (record { ordinary = c; known = (refl, refl, refl); ten = never_accessing _ _ _ n })).known.0);
      }

  -- work that is not changed
  pub unchanged : {w : Work} → Lawful A w (λ t mem. retrace t w)
  unchanged {w} =
      record {
        keeps = λ P t mem z. fine-plain w z;
        alike = λ m x small u. same refl (unrefused-plain w u);
        lists = λ mem c made. listed_same w made refl refl;
      }

  -- ---- tests of registers and of loaded values

  pub lawful-pick : (t : Bool) {w : Work} {f g : Trace → List ℕ → Work} → Lawful A w f → Lawful A w g → Lawful A w (λ u mem. pick t (f u mem) (g u mem))
  lawful-pick true p q = p
  lawful-pick false p q = q

  pub lawful_lt : (i j : ℕ) {w : Work} {f g : Trace → List ℕ → Work} → Lawful A w f → Lawful A w g → Lawful A w (λ t mem. if_lt i j (f t mem) (g t mem))
  unfolding if_lt
  lawful_lt i j p q = lawful-pick (ltb i j) p q

  pub lawful_le : (i j : ℕ) {w : Work} {f g : Trace → List ℕ → Work} → Lawful A w f → Lawful A w g → Lawful A w (λ t mem. if_le i j (f t mem) (g t mem))
  unfolding if_le
  lawful_le i j p q = lawful-pick (leb i j) p q

  pub lawful_eq : (i j : ℕ) {w : Work} {f g : Trace → List ℕ → Work} → Lawful A w f → Lawful A w g → Lawful A w (λ t mem. if_eq i j (f t mem) (g t mem))
  unfolding if_eq
  lawful_eq i j p q = lawful-pick (eqb i j) p q

  -- ---- registers

  -- change registers alone
  on-registers : (g : Work → Work) → ((P : ℕ → ℕ → ℕ → Type 0) (w : Work) → Fine P w → Fine P (g w))
      → ((w : Work) → (g w).answer ≡ w.answer) → ((w : Work) → (g w).stored ≡ w.stored) → ((t : Trace) (w : Work) → g (retrace t w) ≡ retrace t (g w)) → Law A (λ mem. g)
  on-registers g s e f r =
      law (λ w. record {
        keeps = λ P t mem z. s P (retrace untraced w) (fine-plain w z);
        alike = λ m x small u. same refl (record { none = e (retrace untraced w) ∙ u.none; inside = rw (f (retrace untraced w)) u.inside; ordinary = (s _ (retrace untraced w) (any_fine (retrace untraced w) (u.ordinary.0, refl))).ordinary });
        lists = λ mem c made. listed-none w made (g w) (r untraced w) (r (traced made) w) (e w);
      })

  pub lawful-put : (k v : ℕ) → Law A (λ mem. put k v)
  unfolding put
  lawful-put k v = on-registers (put k v) (λ P w z. fine-put k v z) (λ w. refl) (λ w. refl) (λ t w. refl)

  pub lawful-raise : (k mask : ℕ) → Law A (λ mem. raise k mask)
  unfolding raise
  lawful-raise k mask = law (λ w. (lawful-put _ _).at w)

  pub lawful-lower : (k mask : ℕ) → Law A (λ mem. lower k mask)
  unfolding lower
  lawful-lower k mask = law (λ w. (lawful-put _ _).at w)

  pub lawful-goto_snp : Law A (λ mem. goto_snp)
  unfolding goto_snp
  lawful-goto_snp = law (λ w. (lawful-raise _ _).at w)

  pub lawful-put_core : (c : Core) → Law A (λ mem. put_core c)
  unfolding put_core
  lawful-put_core c = on-registers (put_core c) (λ P w z. fine-put_core c z) (λ w. refl) (λ w. refl) (λ t w. refl)

  pub lawful-put_both : (b : Both) → Law A (λ mem. put_both b)
  unfolding put_both put_system
  lawful-put_both b = law (λ w. (lawful-put_core _).at w then on-registers (put_system b.system) (λ P w z. fine-put_system b.system z) (λ w. refl) (λ w. refl) (λ t w. refl))

  -- ---- refusals other than 10

  pub lawful-refuse : (number : ℕ) → A number → (number ≡ 0 → ⊥) × (number ≡ outside → ⊥) → Law A (λ mem. refuse number)
  lawful-refuse number allowed n =
      law (λ w. record {
        keeps = λ P t mem f. fine-refuse number n.1 (t number allowed) (fine-plain w f);
        alike = λ m x small u. rw (refused_with_lem number 0 0 (retrace untraced w) u.none) (refused n.0 n.1 refl (u.ordinary.0, refl) (u.ordinary.0, refl));
        lists = λ mem c made. listed-refuse number n.1 w made;
      })

  pub lawful-stop : A stop → Law A (λ mem. refuse stop)
  lawful-stop s = lawful-refuse stop s (omega arith)

  pub lawful-attempted : (a : Option Core) → A stop → Law A (λ mem. attempted a)
  unfolding attempted
  lawful-attempted None s = law (lawful-stop s).at
  lawful-attempted (Some c) s = law (lawful-put_core c).at

-- ---- accesses

pub longer : (m x : List ℕ) (i : ℕ) → i < length m → i < length (m ++ x)
longer m x i h = omega (arith, length-append m x)

pub same_word : (m x : List ℕ) (a : ℕ) (w : Work) → Unrefused (length m) w → index a < length m → word_at (m ++ x) a w ≡ word_at m a w
unfolding word_at
same_word m x a w u h = word-appended m x w.stored (index a) u.inside h

-- append a store that is inside memory
alike-append : {size : ℕ} (s : Store) → StoreInside size s → (w : Work) → Unrefused size w → Alike size (append s w) (append s w)
unfolding append
alike-append {size} s i w u =
    rw (yes_eq u.none) (same refl (record { none = u.none; inside = inside_snoc size w.stored s u.inside i; ordinary = u.ordinary }))

-- answer 10 for an access outside memory
beyond_with : {size : ℕ} (kind a : ℕ) → kind_fetch ≤ kind → kind ≤ kind_store → size ≤ index a → {v v' : Work} → Fine (AnswerIs outside kind a) v → Alike size v v'
beyond_with kind a low high h f =
    beyond f.known.0 f.ordinary (record { least = rw f.known.1 low; most = rw f.known.1 high; away = rw f.known.2 h })

-- the refusal of an access of this kind is allowed: of a load or a store always, of a fetch where A has 10
abbrev Allowed : (ℕ → Type 0) → ℕ → ℕ → Type 1
Allowed A kind a = (P : ℕ → ℕ → ℕ → Type 0) → ((n : ℕ) → A n → Turns P n) → Accessing P → (k b : ℕ) → P 0 k b → P outside kind a

module _ {A : ℕ → Type 0} where
  loading : (a : ℕ) → Allowed A kind_load a
  loading a P t ten k b z = ten k b z kind_load a (omega arith) (omega arith)

  storing : (a : ℕ) → Allowed A kind_store a
  storing a P t ten k b z = ten k b z kind_store a (omega arith) (omega arith)

  fetching : (a : ℕ) → A outside → Allowed A kind_fetch a
  fetching a allowed P t ten k b z = t outside allowed k b z kind_fetch a (proper-access kind_fetch a (omega arith) (omega arith))

  -- access a, then do g: g needs the second law only where a is inside memory
  access_then : (kind a : ℕ) → kind_fetch ≤ kind → kind ≤ kind_store → Allowed A kind a → (w : Work) (g : List ℕ → Work → Work)
      → ((P : ℕ → ℕ → ℕ → Type 0) → ((n : ℕ) → A n → Turns P n) → (mem : List ℕ) (v : Work) → Fine P v → Fine P (g mem v))
      → ((m x : List ℕ) → length m < 2 ^ 30 → Unrefused (length m) w → index a < length m → Alike (length m) (g m (retrace untraced w)) (g (m ++ x) (retrace untraced w)))
      → ((mem : List ℕ) (v : Work) → Ordinary v → (made : List Access) → Listed (length mem) v made (g mem (retrace untraced v)) (g mem (retrace (traced made) v)))
      → Lawful A w (λ t mem. g mem (access mem kind a (retrace t w)))
  access_then kind a low high may w g k one each =
      record {
        keeps = λ P t mem f. k P t mem _ (fine-access mem kind a (may P t f.ten) (fine-plain w f));
        alike = λ m x small u.
            cases_lt (index a) (length m)
            (λ h. rw (inside-same m kind a (retrace untraced w) refl h, inside-same (m ++ x) kind a (retrace untraced w) refl (longer m x (index a) h)) (one m x small u h))
            (λ h. beyond_with kind a low high h (k _ (λ n z. never_turns outside kind a (λ z. omega (arith, z)) n) m _ (fine-outside m kind a (retrace untraced w) (u.ordinary.0, refl) u.none h)));
        lists = λ mem c made.
            let first = listed-access mem kind a w made in
            let v = access mem kind a (retrace untraced w) in
            let whole = (fine-access mem kind a (λ i b z. tt) (any_fine (retrace untraced w) (c.0, refl))).ordinary in
            listed_then w made v (access mem kind a (retrace (traced made) w)) (g mem) first whole (each mem v whole (made ++ first.more))
            (λ n. k _ (λ i z. never_turns _ _ _ n i) mem v (record { ordinary = whole; known = (refl, refl, refl); ten = never_accessing _ _ _ n }))
            (λ n. (fine-access {P = AnswerIs w.answer w.kind w.address} mem kind a (λ i b z. absurd (n (sym z.0))) (record { ordinary = (c.0, refl); known = (refl, refl, refl); ten = never_accessing w.answer w.kind w.address n })).known.0);
      }

  -- access a, then do next with a value of the word there
  on-access : (kind a : ℕ) → kind_fetch ≤ kind → kind ≤ kind_store → Allowed A kind a → (value : ℕ → ℕ) {next : List ℕ → ℕ → Work → Work} → ((v : ℕ) → Law A (λ mem. next mem v))
      → (w : Work) → Lawful A w (λ t mem. next mem (value (word_at mem a (retrace t w))) (access mem kind a (retrace t w)))
  unfolding word_at
  on-access kind a low high may value {next} l w =
      access_then kind a low high may w (λ mem. next mem (value (word_at mem a w)))
      (λ P t mem v f. subst (λ (u : Work). Fine P (next mem (value (word_at mem a w)) u)) (plain v f.ordinary.1) (((l _).at v).keeps P t mem f))
      (λ m x small u h. rw (same_word m x a w u h) (((l (value (word_at m a w))).at w).alike m x small u))
      (λ mem v c made. ((l (value (word_at mem a w))).at v).lists mem c made)

  pub lawful-access : (a : ℕ) → Law A (λ mem. access mem kind_load a)
  lawful-access a = law (λ w. on-access kind_load a (omega arith) (omega arith) (loading a) (λ v. v) {next = λ mem v u. u} (λ v. law (λ u. unchanged)) w)

  -- load a word, then do next with it
  pub lawful_read : (a : ℕ) {next : List ℕ → ℕ → Work → Work} → ((v : ℕ) → Law A (λ mem. next mem v)) → Law A (λ mem. read_word mem a (next mem))
  lawful_read a l = law (λ w. on-access kind_load a (omega arith) (omega arith) (loading a) (λ v. v) l w)

  pub lawful-r_index_word : (base n k : ℕ) → Law A (λ mem. r_index_word mem base n k)
  unfolding r_index_word
  lawful-r_index_word base n k = law (λ w. (lawful_read _ (λ v. lawful-put k v)).at w)

  pub lawful-r_index_byte : (base k : ℕ) → Law A (λ mem. r_index_byte mem base k)
  unfolding r_index_byte byte_at
  lawful-r_index_byte base k = law (λ w. on-access kind_load base (omega arith) (omega arith) (loading base) (byte_of (selector base)) (λ v. lawful-put k v) w)

  pub lawful-fetch : A outside → (a : ℕ) {next : List ℕ → ℕ → Work → Work} → ((v : ℕ) → Law A (λ mem. next mem v)) → Law A (λ mem. fetch_byte mem a (next mem))
  unfolding byte_at
  lawful-fetch allowed a l = law (λ w. on-access kind_fetch a (omega arith) (omega arith) (fetching a allowed) (byte_of (selector a)) l w)

  -- store a value of the word that is there
  on_store : (a : ℕ) (value : ℕ → ℕ) → Law A (λ mem w. append (word (index a) (value (word_at mem a w))) (access mem kind_store a w))
  unfolding word_at
  on_store a value =
      law (λ w. access_then kind_store a (omega arith) (omega arith) (storing a) w (λ mem. append (word (index a) (value (word_at mem a w)))) (λ P t mem v f. fine-append _ f)
      (λ m x small u h. rw (same_word m x a w u h) (alike-append (word (index a) (value (word_at m a w))) h (retrace untraced w) (unrefused-plain w u)))
      (λ mem v c made. listed-append (word (index a) (value (word_at mem a w))) v made))

  pub lawful-w_index_word : (base n v : ℕ) → Law A (λ mem. w_index_word mem base n v)
  unfolding w_index_word store_word
  lawful-w_index_word base n v = law (λ w. (on_store (at_word base n) (λ z. v)).at w)

  pub lawful-store_byte : (a b : ℕ) → Law A (λ mem. store_byte mem a b)
  unfolding store_byte
  lawful-store_byte a b = law (λ w. (on_store a (with_byte (selector a) b)).at w)

-- ---- moves

module _ (m x : List ℕ) (small : length m < 2 ^ 30) where
  -- a move has all its bytes inside memory, or has a first access outside
  data Moves (s d n : ℕ) : Type 0 where
    fits : move_outside m s d n ≡ (0, 0) → move_outside (m ++ x) s d n ≡ (0, 0) → (0 < n → offset s + n ≤ 4 * length m) → (0 < n → offset d + n ≤ 4 * length m) → Moves s d n
    leaves : kind_fetch ≤ (move_outside m s d n).0 → (move_outside m s d n).0 ≤ kind_store → length m ≤ index (move_outside m s d n).1 → Moves s d n

  next-byte : (a n : ℕ) → index a < length m → (0 < n → offset (at_byte a 1) + n ≤ 4 * length m) → offset a + suc n ≤ 4 * length m
  next-byte a n h f = cases_lt 0 n (λ p. omega (arith, f p)) (λ z. omega arith)

  moves : (s d n : ℕ) → Moves s d n
  unfolding move_outside move_accesses first_outside
  moves s d zero = fits refl refl (λ z. omega (arith, z)) (λ z. omega (arith, z))
  moves s d (suc n) =
      cases_lt (index s) (length m)
      (λ a. cases_lt (index d) (length m)
      (λ b. on a b (moves (at_byte s 1) (at_byte d 1) n))
      (λ b. leaves (rw (yes_lt a, no_lt b) (omega arith)) (rw (yes_lt a, no_lt b) (omega arith)) (rw (yes_lt a, no_lt b) b)))
      (λ a. leaves (rw (no_lt a) (omega arith)) (rw (no_lt a) (omega arith)) (rw (no_lt a) a))
    where
      on : index s < length m → index d < length m → Moves (at_byte s 1) (at_byte d 1) n → Moves s d (suc n)
      on a b (fits e e' p q) =
          fits (rw (yes_lt a, yes_lt b) e) (rw (yes_lt (longer m x (index s) a), yes_lt (longer m x (index d) b)) e') (λ z. next-byte s n a p) (λ z. next-byte d n b q)
      on a b (leaves l h o) = leaves (rw (yes_lt a, yes_lt b) l) (rw (yes_lt a, yes_lt b) h) (rw (yes_lt a, yes_lt b) o)

  alike-transfer : (s d n : ℕ) (w : Work) → Unrefused (length m) w → Alike (length m) (transfer m s d n w) (transfer (m ++ x) s d n w)
  unfolding transfer move_or_refuse
  alike-transfer s d n w u =
      rw (unnoted (up_to_outside m (move_accesses s d n)) w u.ordinary.1, unnoted (up_to_outside (m ++ x) (move_accesses s d n)) w u.ordinary.1)
      (cases_eq n 0
      (λ e. rw (yes_eq e, yes_eq e) (same refl u))
      (λ e. rw (no_eq e, no_eq e) (go e (moves s d n))))
    where
      go : (n ≡ 0 → ⊥) → Moves s d n → Alike (length m) (move_or_refuse m (move_outside m s d n) s d n w) (move_or_refuse (m ++ x) (move_outside (m ++ x) s d n) s d n w)
      go e (fits h h' p q) =
          rw (h, h', yes_eq {a = 0} {b = 0} refl) (alike-append (bytes (offset s) (offset d) n) (p (omega (arith, e)), q (omega (arith, e))) w u)
      go e (leaves l h o) =
          rw (no_eq {a = (move_outside m s d n).0} {b = 0} (λ z. omega (arith, z, l)))
          (beyond_with _ _ l h o (rw (refused_with_lem outside (move_outside m s d n).0 (move_outside m s d n).1 w u.none)
          (record { ordinary = u.ordinary; known = (refl, refl, refl); ten = never_accessing outside _ _ (λ z. omega (arith, z)) })))

pub lawful-transfer : {A : ℕ → Type 0} (s d n : ℕ) → Law A (λ mem. transfer mem s d n)
lawful-transfer s d n =
    law (λ w. record {
      keeps = λ P t mem f. fine-transfer mem s d n (fine-plain w f);
      alike = λ m x small u. alike-transfer m x small s d n (retrace untraced w) (unrefused-plain w u);
      lists = λ mem c made. listed-transfer mem s d n w made;
    })
