-- What follows from the two contracts. Each is total and has one answer only; a refusal leaves the output as it was; what assemble wrote is the chain,
-- which gives the function its operand, and list gives it back as the line of its function and operand.
use mathlib.Core.Path.{◌≡◌, refl, sym, ap, ◌∙◌, subst}
use mathlib.Core.Bool.{false}
use mathlib.Core.List.{List, [], ◌∷◌, ◌++◌, append-nil}
use Prim.Native.Nat.{ℕ, ◌^◌, ◌≤◌, ◌<◌}
use native.Mathlib.Omega.{arith}
use lib.ListN.{length, take}
use lib.Seq.{sets, sets-eq, take_at, length-sets}
use Rattle.std.specs.Prelude.{Result, Ok, Err, IfOk, OnOk, OnErr}
use Rattle.rules.proofs.Tests.{yes_lt, no_lt, cases_lt, by_bool}
use Rattle.assembly.specs.Chain.{chain, function_of}
use Rattle.assembly.specs.Meeting.{Comes, steps_after, Meets}
use Rattle.assembly.specs.Listing.{line_of, listing_from, listing, bytes_line}
use Rattle.assembly.specs.Calls.{Outcome, outcome_of, write_or_refuse, function_bad, assemble, list, AssembleContract, ListContract}
use Rattle.assembly.specs.declared.Refusal.{Refusal}
use Rattle.assembly.proofs.Functions.{not-pfix, not-nfix}
use Rattle.assembly.proofs.Meeting.{assembled-meets}
use Rattle.assembly.proofs.Listed.{listed_assembled}

-- ---- ONE ANSWER

-- an outcome is that of one reply and one output
outcome-one : (r r' : Result ℕ Refusal) (out out' : List ℕ) → outcome_of r out ≡ outcome_of r' out' → (r ≡ r') × (out ≡ out')
outcome-one r r' out out' e = (ap (λ (o : Outcome). o.reply) e, ap (λ (o : Outcome). o.output) e)

pub assemble_unique : (f v : ℕ) (out : List ℕ) (r r' : Result ℕ Refusal) (a a' : List ℕ) → AssembleContract f v out r a → AssembleContract f v out r' a' → (r ≡ r') × (a ≡ a')
assemble_unique f v out r r' a a' p q = outcome-one r r' a a' (p ∙ sym q)

pub list_unique : (code out : List ℕ) (r r' : Result ℕ Refusal) (a a' : List ℕ) → ListContract code out r a → ListContract code out r' a' → (r ≡ r') × (a ≡ a')
list_unique code out r r' a a' p q = outcome-one r r' a a' (p ∙ sym q)

-- ---- SOME ANSWER, from any input

-- a reply and an output that have an outcome
pub record Told (o : Outcome) : Type 0 where
  pub reply : Result ℕ Refusal
  pub output : List ℕ
  pub meets : outcome_of reply output ≡ o

-- each outcome is that of its own reply and output
told : (o : Outcome) → Told o
told o = record { reply = o.reply; output = o.output; meets = refl }

pub assemble_total : (f v : ℕ) (out : List ℕ) → Told (assemble f v out)
assemble_total f v out = told (assemble f v out)

pub list_total : (code out : List ℕ) → Told (list code out)
list_total code out = told (list code out)

-- ---- A REFUSAL leaves the output as it was

Untouched : List ℕ → Outcome → Type 0
Untouched out o = OnErr o.reply (o.output ≡ out)

untouched_written : (bytes out : List ℕ) → Untouched out (write_or_refuse bytes out)
unfolding write_or_refuse Untouched
untouched_written bytes out =
    cases_lt (length out) (length bytes) (λ l. rw (yes_lt l) refl) (λ g. rw (no_lt g) tt)

untouched-assemble : (f v : ℕ) (out : List ℕ) → Untouched out (assemble f v out)
unfolding assemble Untouched
untouched-assemble f v out =
    by_bool (function_bad f) (λ t. rw t refl)
    (λ t. rw t
    (cases_lt 8 (length (chain f v)) (λ l. rw (yes_lt l) refl) (λ g. rw (no_lt g) (untouched_written (chain f v) out))))

pub assemble-refused : (f v : ℕ) (out : List ℕ) (refusal : Refusal) (a : List ℕ) → AssembleContract f v out (Err refusal) a → a ≡ out
unfolding Untouched
assemble-refused f v out refusal a p = subst (Untouched out) (sym p) (untouched-assemble f v out)

pub list-refused : (code out : List ℕ) (refusal : Refusal) (a : List ℕ) → ListContract code out (Err refusal) a → a ≡ out
unfolding Untouched list
list-refused code out refusal a p = subst (Untouched out) (sym p) (untouched_written (listing code) out)

-- ---- WHAT IS WRITTEN, where the reply is a size

-- an outcome that is a refusal, or these bytes at the start of its output
Holds : List ℕ → Outcome → Type 0
Holds bytes o = IfOk o.reply (λ size. take size o.output ≡ bytes)

-- the bytes that were written into a longer array
pub written-bytes : (bytes array : List ℕ) → length bytes ≤ length array → take (length bytes) (sets array 0 bytes) ≡ bytes
written-bytes bytes array h = rw (sets-eq bytes array 0 (omega arith)) (take_at bytes _ (length bytes) refl)

holds_written : (bytes out : List ℕ) → Holds bytes (write_or_refuse bytes out)
unfolding write_or_refuse Holds
holds_written bytes out =
    cases_lt (length out) (length bytes) (λ l. rw (yes_lt l) tt) (λ g. rw (no_lt g) (written-bytes bytes out g))

holds-assemble : (f v : ℕ) (out : List ℕ) → Holds (chain f v) (assemble f v out)
unfolding assemble Holds
holds-assemble f v out =
    by_bool (function_bad f) (λ t. rw t tt)
    (λ t. rw t
    (cases_lt 8 (length (chain f v)) (λ l. rw (yes_lt l) tt) (λ g. rw (no_lt g) (holds_written (chain f v) out))))

-- the bytes that assemble wrote are the chain
pub assemble_writes : (f v : ℕ) (out : List ℕ) (size : ℕ) (a : List ℕ) → AssembleContract f v out (Ok size) a → take size a ≡ chain f v
unfolding Holds
assemble_writes f v out size a p = subst (Holds (chain f v)) (sym p) (holds-assemble f v out)

-- and the function is not refused
Good : ℕ → Outcome → Type 0
Good f o = OnOk o.reply (function_bad f ≡ false)

on_reply : {P : Type 0} (r : Result ℕ Refusal) → P → OnOk r P
on_reply (Ok size) p = p
on_reply (Err refusal) p = tt

good-assemble : (f v : ℕ) (out : List ℕ) → Good f (assemble f v out)
unfolding assemble Good
good-assemble f v out = by_bool (function_bad f) (λ t. rw t tt) (λ t. on_reply _ t)

pub assemble_good : (f v : ℕ) (out : List ℕ) (size : ℕ) (a : List ℕ) → AssembleContract f v out (Ok size) a → function_bad f ≡ false
unfolding Good
assemble_good f v out size a p = subst (Good f) (sym p) (good-assemble f v out)

-- THE CLAIM of what assemble wrote: where it stands at Iptr and nothing disturbs it, the final byte has the function, and meets the operand
pub assemble-meets : (f v : ℕ) → v < 2 ^ 32 → (out : List ℕ) (size : ℕ) (a : List ℕ) → AssembleContract f v out (Ok size) a
    → (prefixes : List ℕ) (last : ℕ) → take size a ≡ prefixes ++ (last ∷ []) → (regs m : List ℕ) → Comes prefixes last regs m
    → (function_of last ≡ f) × ((steps_after (length prefixes) regs m).1 ≡ m) × Meets last v (steps_after (length prefixes) regs m).0 m
assemble-meets f v h out size a p prefixes last e regs m c =
    assembled-meets f v h (assemble_good f v out size a p) prefixes last (sym (assemble_writes f v out size a p) ∙ e) regs m c

-- the text that list wrote is the listing
pub list_writes : (code out : List ℕ) (size : ℕ) (a : List ℕ) → ListContract code out (Ok size) a → take size a ≡ listing code
unfolding Holds list
list_writes code out size a p = subst (Holds (listing code)) (sym p) (holds_written (listing code) out)

-- ---- THERE AND BACK: list, handed what assemble wrote, writes the line of the function and the operand

-- nothing is listed of no code
listing_none : listing [] ≡ []
unfolding listing_from bytes_line
listing_none = refl

pub listed_back : (f v : ℕ) → v < 2 ^ 32 → (out text : List ℕ) (n k : ℕ) (a b : List ℕ) → AssembleContract f v out (Ok n) a → ListContract (take n a) text (Ok k) b
    → take k b ≡ line_of f v
listed_back f v h out text n k a b p q =
    let g = assemble_good f v out n a p in
    list_writes (take n a) text k b q
    ∙ ap listing (assemble_writes f v out n a p ∙ sym (append-nil (chain f v)))
    ∙ listed_assembled f v [] h (not-pfix f g) (not-nfix f g)
    ∙ rw listing_none (append-nil (line_of f v))

-- ---- WITHIN THE OUTPUT: no call says that it wrote more bytes than the output has

Within : List ℕ → Outcome → Type 0
Within out o = IfOk o.reply (λ size. size ≤ length out) × (length o.output ≡ length out)

within_written : (bytes out : List ℕ) → Within out (write_or_refuse bytes out)
unfolding write_or_refuse Within
within_written bytes out =
    cases_lt (length out) (length bytes) (λ l. rw (yes_lt l) (tt, refl))
    (λ g. rw (no_lt g) (g, length-sets out 0 bytes))

within-assemble : (f v : ℕ) (out : List ℕ) → Within out (assemble f v out)
unfolding assemble Within
within-assemble f v out =
    by_bool (function_bad f) (λ t. rw t (tt, refl))
    (λ t. rw t (cases_lt 8 (length (chain f v)) (λ l. rw (yes_lt l) (tt, refl)) (λ g. rw (no_lt g) (within_written (chain f v) out))))

pub assemble-within : (f v : ℕ) (out : List ℕ) (r : Result ℕ Refusal) (a : List ℕ) → AssembleContract f v out r a
    → IfOk r (λ size. size ≤ length out) × (length a ≡ length out)
unfolding Within
assemble-within f v out r a p = subst (Within out) (sym p) (within-assemble f v out)

pub list-within : (code out : List ℕ) (r : Result ℕ Refusal) (a : List ℕ) → ListContract code out r a
    → IfOk r (λ size. size ≤ length out) × (length a ≡ length out)
unfolding Within list
list-within code out r a p = subst (Within out) (sym p) (within_written (listing code) out)
