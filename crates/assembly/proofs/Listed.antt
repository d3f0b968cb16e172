-- THE LISTING of what was assembled gives back the mnemonic and the operand, or the operation's name: its first line is that of the function and
-- the operand, and the rest is the listing of what follows.
use mathlib.Core.Path.{◌≡◌, sym, ◌∙◌}
use mathlib.Core.Bool.{false}
use mathlib.Core.List.{List, [], ◌∷◌, ◌++◌, append_assoc}
use Prim.Native.Nat.{ℕ, ◌^◌, ◌<◌}
use Rattle.rules.specs.Words.{with_nibble}
use Rattle.assembly.specs.Chain.{pfix, nfix, chain, function_of, is_prefix, after_prefix, after_prefixes}
use Rattle.assembly.specs.Listing.{line_of, listing_from, listing}
use Rattle.assembly.specs.Meeting.{Prefixes}
use Rattle.assembly.proofs.Reading.{no-prefix}
use Rattle.assembly.proofs.Exact.{before, final, chain-parts, final-function, chain_operand, all_prefixes}

-- prefixes and a byte that is none are one line
listed-chain : (oreg : ℕ) (seen bytes : List ℕ) (last : ℕ) (rest : List ℕ) → Prefixes bytes → is_prefix last ≡ false
    → listing_from oreg seen (bytes ++ last ∷ rest) ≡ line_of (function_of last) (with_nibble last (after_prefixes oreg bytes)) ++ listing rest
unfolding listing_from after_prefixes
listed-chain oreg seen [] last rest p a = rw a
listed-chain oreg seen (byte ∷ bytes) last rest p a =
    rw p.0 (listed-chain (after_prefix oreg byte) (seen ++ (byte ∷ [])) bytes last rest p.1 a)

pub listed_assembled : (f v : ℕ) (rest : List ℕ) → v < 2 ^ 32 → (f ≡ pfix → ⊥) → (f ≡ nfix → ⊥) → listing (chain f v ++ rest) ≡ line_of f v ++ listing rest
listed_assembled f v rest h a b =
    rw (chain-parts 15 f v, append_assoc (before 15 v) (final f v ∷ []) rest)
    (listed-chain 0 [] (before 15 v) (final f v) rest (all_prefixes 15 v)
    (no-prefix (final f v) (λ e. a (sym (final-function f v) ∙ e)) (λ e. b (sym (final-function f v) ∙ e)))
    ∙ rw (final-function f v, chain_operand f v h))
