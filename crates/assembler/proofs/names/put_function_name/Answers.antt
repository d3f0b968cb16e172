use Rattle.std.proofs.Common.{List, ℕ, ◌++◌, ap, ◌∙◌}
use Rattle.assembly.specs.Names.{letters, function_names}
use Rattle.assembler.proofs.Tables.{values, now_at, function_rows, function_at}
use Rattle.assembler.proofs.names.put_function_name.Goals as goal

pub returns : goal.returns
unfolding values function_rows function_names letters
returns c =
    let p = rw now_at at c.push_str.ensures in
    p ∙ ap (λ (name : List ℕ). c.args.line.now ++ name) (function_at c.args.function _ c.requires.0)
