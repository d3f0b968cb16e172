-- A plan is the registers and a log, with the stores and the refusal. view is the Work that it stands for; Room, Grown and Ended
-- say how many stores a log can take or has taken.
use Rattle.std.specs.Prelude.{ℕ, zero, suc, ◌+◌, ◌≤◌, ◌≡◌, List, [], ◌∷◌, ◌++◌, map, take, drop}
use Rattle.rules.specs.Memory.{Store, word, bytes}
use Rattle.rules.specs.Work.{Work, untraced}
use Rattle.plan.specs.declared.Single.{Single}
use Rattle.plan.specs.declared.Log.{Log}
use Rattle.plan.specs.declared.Plan.{Plan}

-- the single stores of a log as stores of single words (DECISIONS 44)
abbrev pub singles : List Single → List Store
singles xs = map (λ (x : Single). word x.index x.value) xs

-- the move as a list of stores; none where the count is 0 (DECISIONS 44: at most one)
abbrev pub moves : ℕ → ℕ → ℕ → List Store
moves source target zero = []
moves source target (suc n) = bytes source target (suc n) ∷ []

-- the stores of a plan in program order: the single stores before the move, the move, the single stores after it (DECISIONS 44)
unfoldable pub logged : List Single → ℕ → ℕ → ℕ → ℕ → ℕ → List Store
logged xs n cut source target count =
    take cut (singles xs) ++ (moves source target count ++ drop cut (take n (singles xs)))

-- ---- the parts of a log (DECISIONS 44)

-- the number of single stores (DECISIONS 44)
abbrev pub number_of : Log → ℕ
number_of g = g.number

-- how many of them come before the move (DECISIONS 44)
abbrev pub cut_of : Log → ℕ
cut_of g = g.cut

-- the byte of memory from which the move copies (DECISIONS 44)
abbrev pub source_of : Log → ℕ
source_of g = g.block.source

-- the byte of memory to which the move copies (DECISIONS 44)
abbrev pub target_of : Log → ℕ
target_of g = g.block.target

-- the number of bytes that the move copies; 0 is no move (DECISIONS 44)
abbrev pub count_of : Log → ℕ
count_of g = g.block.count

-- the number of the first refusal, or 0 (DECISIONS 44)
abbrev pub answer_of : Log → ℕ
answer_of g = g.refusal.number

-- the kind of the refused access, or 0 (DECISIONS 44)
abbrev pub kind_of : Log → ℕ
kind_of g = g.refusal.kind

-- the byte address of that access, or 0 (DECISIONS 44)
abbrev pub address_of : Log → ℕ
address_of g = g.refusal.address

-- the indices of the single stores, and of the places that are not used (DECISIONS 44)
abbrev pub indices_of : Log → List ℕ
indices_of g = map (λ (x : Single). x.index) g.singles

-- the stores of a log in program order (DECISIONS 44)
unfoldable pub stores_of : Log → List Store
stores_of g = logged g.singles (number_of g) (cut_of g) (source_of g) (target_of g) (count_of g)

-- the Work that registers and a log stand for (DECISIONS 44)
abbrev pub view : List ℕ → Log → Work
view r g = record { regs = r; stored = stores_of g; answer = answer_of g; kind = kind_of g; address = address_of g; trace = untraced }

-- the Work that a plan stands for (DECISIONS 44)
abbrev pub work_of : Plan → Work
work_of p = view p.regs p.log

-- ---- room

-- the log has room for k more single stores (DECISIONS 44)
abbrev pub Room : ℕ → Log → Type 0
Room k g = (cut_of g ≤ number_of g) × (number_of g + k ≤ 16)

-- h has at most k more single stores than g, and no other move (DECISIONS 44)
abbrev pub Grown : ℕ → Log → Log → Type 0
Grown k g h =
    (cut_of h ≡ cut_of g) × (count_of h ≡ count_of g) × (number_of g ≤ number_of h) × (number_of h ≤ number_of g + k)

-- h has at most k more single stores than g, and may have a move that g has not (DECISIONS 44)
abbrev pub Ended : ℕ → Log → Log → Type 0
Ended k g h = (cut_of h ≤ number_of h) × (number_of h ≤ number_of g + k)
