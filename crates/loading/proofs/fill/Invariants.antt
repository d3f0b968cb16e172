use Rattle.std.proofs.Common.{◌-◌, ◌≡◌, length}
use Rattle.std.proofs.lemmas.List.Edits.{sets}
use Rattle.rules.specs.Calls.{fresh_memory}
use Rattle.loading.proofs.fill.Given as goal

abbrev pub invariant-loop-i : goal.invariant-loop-i
invariant-loop-i l =
    let n = length l.initial.mem in
    sets l.mem l.i (fresh_memory l.code l.i (n - l.i)) ≡ sets l.initial.mem 0 (fresh_memory l.code 0 n)
