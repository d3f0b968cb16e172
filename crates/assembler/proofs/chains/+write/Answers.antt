use Rattle.std.proofs.Common.{◌≡◌, List, [], ◌∷◌, ℕ, ◌+◌, ◌<◌, ◌≤◌, length, set, refl, sym, ap, subst, ◌∙◌, zero-add, length-append, arith}
use Rattle.std.proofs.lemmas.List.Edits.{sets}
use Rattle.assembly.specs.Chain.{prefix_of, upper_of, chain}
use Rattle.assembly.proofs.Exact.{final, chain_short, chain_longer, upper-falls, levels-length}
use Rattle.laws.proofs.Stores.{sets-append}
use Rattle.assembler.proofs.chains.+write.Goals as goal

-- a chain of one byte
one_byte : (f v byte : ℕ) (out out' : List ℕ) → v < 16 → byte ≡ final f v → out' ≡ set out 0 byte → (1 ≡ length (chain f v)) × (out' ≡ sets out 0 (chain f v))
one_byte f v byte out out' h b e = rw (chain_short f v h) (refl, e ∙ ap (set out 0) b)

-- a chain of prefixes and a byte
more_bytes : (f v p u size byte : ℕ) (out mid out' : List ℕ) → 16 ≤ v → p ≡ prefix_of v → u ≡ upper_of v → byte ≡ final f v
    → (size ≡ length (chain p u)) × (mid ≡ sets out 0 (chain p u)) → out' ≡ set mid size byte
    → (size + 1 ≡ length (chain f v)) × (out' ≡ sets out 0 (chain f v))
more_bytes f v p u size byte out mid out' h ep eu b w e =
    let c : chain p u ≡ chain (prefix_of v) (upper_of v) = rw (ep, eu) in
    rw (chain_longer f v h, ← c) (
      sym (length-append (chain p u) (final f v ∷ []) ∙ ap (λ (n : ℕ). n + 1) (sym w.0)),
      e ∙ rw (b, w.1, w.0) (sym (sets-append out 0 (chain p u) (final f v ∷ []) ∙ rw (zero-add (length (chain p u))))),
    )

-- the number of bytes fits
counted : (f v size : ℕ) → size ≡ length (chain f v) → size ≤ 16
counted f v size e = omega (arith, levels-length 16 f v)

pub returns-then-operand-lt16 : goal.returns-then-operand-lt16
returns-then-operand-lt16 t c =
    one_byte c.args.function c.args.operand c.instruction-byte.result c.args.chain.now _ c.if-operand-lt16.true c.instruction-byte.ensures c.put.ensures

pub write-size-requires : goal.write-size-requires
write-size-requires t c =
    (subst (λ (j : ℕ). c.upper_of.result < j) c.decreases (rw c.upper_of.ensures (upper-falls c.args.operand c.if-operand-lt16.false)), c.prefix_of.ensures.1)

pub overflow_add-result : goal.overflow_add-result
overflow_add-result t c = omega (arith, counted c.prefix_of.result c.upper_of.result c.write-size.result c.write-size.ensures.0)

pub returns : goal.returns
returns t c =
    more_bytes c.args.function c.args.operand c.prefix_of.result c.upper_of.result c.write-size.result c.instruction-byte.result c.args.chain.now _ _
    c.if-operand-lt16.false c.prefix_of.ensures.0 c.upper_of.ensures c.instruction-byte.ensures c.write-size.ensures c.put-2.ensures
