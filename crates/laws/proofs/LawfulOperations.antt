-- Every action of the tables is lawful, so every function and operation is; only a code without a row is refused with 9.
use mathlib.Core.Path.{◌≡◌, refl}
use mathlib.Core.Bool.{Bool, true, false, ◌&&◌, ◌||◌}
use mathlib.Core.List.{List, [], ◌∷◌}
use Prim.Native.Nat.{ℕ, zero, suc, ◌<◌}
use native.Mathlib.Omega.{arith}
use borrow.Author.Tests.{ne_eqb}
use lib.Dec.{eqb}
use Rattle.rules.specs.Registers.{oreg}
use Rattle.rules.specs.Work.{Work, reg, stop, unlisted, refuse}
use Rattle.rules.specs.Operations.{Action, pure, register_operations, other_operations, on_registers, operations, functions, unlisted_action, operate, function}
use Rattle.rules.specs.declared.Core.{Core}
use Rattle.rules.proofs.Tests.{cases_eq}
use Rattle.laws.specs.Lists.{listed}
use Rattle.laws.specs.Stops.{can_stop}
use Rattle.laws.proofs.Calm.{never}
use Rattle.laws.proofs.Rows.{look-unlisted, Rows, none, ◌&◌, rows_append, look_rows}
use Rattle.laws.proofs.Lawful.{Law, law, lawful-attempted, lawful-put_both, lawful-put_core, lawful-refuse}
use Rattle.laws.proofs.LawfulScheduling.{lawful-endp, lawful-startp, lawful-stopp, lawful-lend, lawful-runp, lawful-stoperr, lawful-j}
use Rattle.laws.proofs.LawfulData.{lawful-lb, lawful-ret, lawful-sb, lawful-savel, lawful-saveh, lawful-altend, lawful-block_move, lawful-ldnl, lawful-ldl, lawful-call, lawful-stl, lawful-stnl}
use Rattle.laws.proofs.LawfulTimers.{lawful-tin, lawful-dist, lawful-enbt, lawful-talt, lawful-taltwt}
use Rattle.laws.proofs.LawfulChannels.{lawful-input, lawful-output, lawful-outbyte, lawful-outword, lawful-resetch, lawful-disc, lawful-diss, lawful-alt, lawful-altwt, lawful-enbc, lawful-enbs}

-- ---- codes without a row

pub operate-unlisted : (code : ℕ) (m : List ℕ) (w : Work) → listed code operations ≡ false → operate code m w ≡ refuse unlisted w
unfolding operate
operate-unlisted code m w h = rw (look-unlisted operations code unlisted_action h)

pub function-opr : (m : List ℕ) (w : Work) → function 0xF m w ≡ operate (reg oreg w) m w
unfolding function functions
function-opr m w = refl

-- a test of every number below n, by computation
unfoldable pub all_below : ℕ → (ℕ → Bool) → Bool
all_below zero t = true
all_below (suc n) t = t n && all_below n t

pub all_below_lem : (n : ℕ) (t : ℕ → Bool) → all_below n t ≡ true → (k : ℕ) → k < n → t k ≡ true
unfolding all_below
all_below_lem zero t h k l = absurd (omega arith)
all_below_lem (suc n) t h k l = go (t n) refl h (all_below_lem n t)
  where
    go : (b : Bool) → t n ≡ b → (b && all_below n t) ≡ true → (all_below n t ≡ true → (k : ℕ) → k < n → t k ≡ true) → t k ≡ true
    go true e q f = cases_eq k n (λ z. rw z e) (λ z. f q k (omega arith))
    go false e q f = never q

-- every function of a byte but the prefixes has a row
function-listed : (code : ℕ) → code < 16 → (code ≡ 2 → ⊥) → (code ≡ 6 → ⊥) → listed code functions ≡ false → ⊥
unfolding functions all_below
function-listed code b n₂ n₆ h =
    let a : (listed code functions || (eqb code 2 || eqb code 6)) ≡ true = all_below_lem 16 (λ k. listed k functions || (eqb k 2 || eqb k 6)) refl code b in
    never (rw (h, ne_eqb code 2 n₂, ne_eqb code 6 n₆) at a)

-- a table of operations on registers alone has a property that each such operation has
rows-registers : {K : ℕ → Action → Type 1} (t : List (ℕ × (Core → Core))) → ((k : ℕ) (g : Core → Core) → K k (pure g)) → Rows K (on_registers t)
rows-registers [] h = none
rows-registers (e ∷ t) h = h e.0 e.1 & rows-registers t h

-- an operation is lawful, where A has 11 if the operation can Stop
abbrev Operation : (ℕ → Type 0) → ℕ → Action → Type 1
Operation A k a = (can_stop k ≡ true → A stop) → Law A a

-- a function is lawful, where A has 11 and 9 if the function is opr
abbrev Function : (ℕ → Type 0) → ℕ → Action → Type 1
Function A k a = (k ≡ 0xF → A stop × A unlisted) → Law A a

module _ {A : ℕ → Type 0} where
  -- ---- operations

  lawful-unlisted : A unlisted → Law A unlisted_action
  lawful-unlisted h = lawful-refuse unlisted h (omega arith)

  others : Rows (Operation A) other_operations
  unfolding other_operations can_stop
  others =
      (λ s. lawful-lb) &
      (λ s. lawful-endp) &
      (λ s. lawful-input) &
      (λ s. lawful-output) &
      (λ s. lawful-startp) &
      (λ s. lawful-outbyte) &
      (λ s. lawful-outword) &
      (λ s. lawful-resetch) &
      (λ s. lawful-stopp) &
      (λ s. law (λ w. (lawful-put_both _).at w)) &
      (λ s. law (λ w. (lawful-put_both _).at w)) &
      (λ s. law (λ w. (lawful-put_both _).at w)) &
      (λ s. lawful-ret) &
      (λ s. lawful-lend) &
      (λ s. law (λ w. (lawful-put_core _).at w)) &
      (λ s. lawful-tin (s refl)) &
      (λ s. lawful-dist (s refl)) &
      (λ s. lawful-disc) &
      (λ s. lawful-diss) &
      (λ s. law (λ w. (lawful-attempted _ (s refl)).at w)) &
      (λ s. law (λ w. (lawful-attempted _ (s refl)).at w)) &
      (λ s. lawful-runp) &
      (λ s. lawful-sb) &
      (λ s. lawful-savel) &
      (λ s. lawful-saveh) &
      (λ s. law (λ w. (lawful-attempted _ (s refl)).at w)) &
      (λ s. law (λ w. (lawful-attempted _ (s refl)).at w)) &
      (λ s. lawful-alt) &
      (λ s. lawful-altwt) &
      (λ s. lawful-altend) &
      (λ s. lawful-enbt (s refl)) &
      (λ s. lawful-enbc) &
      (λ s. lawful-enbs) &
      (λ s. lawful-block_move) &
      (λ s. lawful-talt) &
      (λ s. law (λ w. (lawful-put_both _).at w)) &
      (λ s. lawful-taltwt (s refl)) &
      (λ s. law (λ w. (lawful-put_both _).at w)) &
      (λ s. lawful-stoperr) &
      none

  pub lawful-operate : (code : ℕ) → (can_stop code ≡ true → A stop) → (listed code operations ≡ false → A unlisted) → Law A (operate code)
  unfolding operate operations
  lawful-operate code s h =
      look_rows (Operation A) operations (rows_append (rows-registers register_operations (λ k g s. law (λ w. (lawful-put_core _).at w))) others) code unlisted_action (λ z s. lawful-unlisted (h z)) s

  -- ---- functions

  all-functions : Rows (Function A) functions
  unfolding functions
  all-functions =
      (λ s. lawful-j) &
      (λ s. law (λ w. (lawful-put_core _).at w)) &
      (λ s. lawful-ldnl) &
      (λ s. law (λ w. (lawful-put_core _).at w)) &
      (λ s. law (λ w. (lawful-put_core _).at w)) &
      (λ s. lawful-ldl) &
      (λ s. law (λ w. (lawful-put_core _).at w)) &
      (λ s. lawful-call) &
      (λ s. law (λ w. (lawful-put_core _).at w)) &
      (λ s. law (λ w. (lawful-put_core _).at w)) &
      (λ s. law (λ w. (lawful-put_core _).at w)) &
      (λ s. lawful-stl) &
      (λ s. lawful-stnl) &
      (λ s. law (λ w. (lawful-operate (reg oreg w) (λ z. (s refl).0) (λ z. (s refl).1)).at w)) &
      none

  pub lawful-function : A stop → A unlisted → (code : ℕ) → Law A (function code)
  unfolding function
  lawful-function s h code = look_rows (Function A) functions all-functions code unlisted_action (λ z q. lawful-unlisted h) (λ z. (s, h))

  -- the functions of a byte but opr (and the prefixes) are never refused with 9, and never Stop
  pub lawful_direct : (code : ℕ) → code < 16 → (code ≡ 2 → ⊥) → (code ≡ 6 → ⊥) → (code ≡ 0xF → ⊥) → Law A (function code)
  unfolding function
  lawful_direct code b n₂ n₆ n₁₅ =
      look_rows (Function A) functions all-functions code unlisted_action (λ z. absurd (function-listed code b n₂ n₆ z)) (λ z. absurd (n₁₅ z))
