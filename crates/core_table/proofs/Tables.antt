-- The table of operations on registers alone inside the table of all operations.
use mathlib.Core.Path.{◌≡◌, refl}
use mathlib.Core.Bool.{Bool, true, false}
use mathlib.Core.List.{List, [], ◌∷◌, ◌++◌}
use Prim.Native.Nat.{ℕ}
use lib.Dec.{eqb}
use Rattle.std.specs.Prelude.{Option, Some, None}
use Rattle.rules.specs.Tests.{pick, look}
use Rattle.rules.specs.Registers.{core_of}
use Rattle.rules.specs.Work.{Work, put_core}
use Rattle.rules.specs.Operations.{Action, on_registers, register_operations, other_operations, operations, unlisted_action, operate}
use Rattle.rules.specs.declared.Core.{Core}
use Rattle.core_table.specs.Selected.{selecting, none, register_operation}

-- an operation selected in the first table, else what the second table has
unfoldable pub either : Option Core → Work → Work → Work
either None w v = v
either (Some s) w v = put_core s w

look_either : (t : List (ℕ × (Core → Core))) (u : List (ℕ × Action)) (k : ℕ) (d : Action) (m : List ℕ) (w : Work)
    → look (on_registers t ++ u) k d m w ≡ either (look (selecting t) k none (core_of w.regs)) w (look u k d m w)
unfolding either
look_either [] u k d m w = refl
look_either (e ∷ t) u k d m w = go (eqb k e.0) (look_either t u k d m w)
  where
    go : (b : Bool) → look (on_registers t ++ u) k d m w ≡ either (look (selecting t) k none (core_of w.regs)) w (look u k d m w)
        → pick b (λ m w. put_core (e.1 (core_of w.regs)) w) (look (on_registers t ++ u) k d) m w
        ≡ either (pick b (λ s. Some (e.1 s)) (look (selecting t) k none) (core_of w.regs)) w (look u k d m w)
    go true h = refl
    go false h = h

-- the operation of a code: on registers alone where the first table has it, else by the second table
pub operate-is : (code : ℕ) (m : List ℕ) (w : Work)
    → operate code m w ≡ either (register_operation code (core_of w.regs)) w (look other_operations code unlisted_action m w)
unfolding operate operations register_operation
operate-is code m w = look_either register_operations other_operations code unlisted_action m w
