-- What is left to list after i bytes of code, of which those from start on are the prefixes of a chain.
use mathlib.Core.Path.{◌≡◌, sym, ap, ◌∙◌}
use mathlib.Core.Bool.{true, false}
use mathlib.Core.List.{List, [], ◌∷◌, ◌++◌, append_assoc}
use Prim.Native.Nat.{ℕ, suc, ◌+◌, ◌-◌, ◌*◌, ◌/◌, ◌%◌, ◌^◌, ◌≤◌, ◌<◌}
use native.Mathlib.Omega.{arith}
use native.Mathlib.Numerals.{add-one}
use lib.ListN.{length, get_or, take, drop, length-append, length-drop, drop_of_length-le}
use lib.Dec.{leb}
use borrow.Author.Tests.{le-leb, lt-leb}
use lib.Seq.{sets, drop-cons, take-suc, take_all, get_or-drop, length-sets}
use Rattle.rules.specs.Words.{with_nibble}
use Rattle.rules.proofs.Tests.{cases_lt}
use Rattle.assembly.specs.Chain.{function_of, is_prefix, after_prefix}
use Rattle.assembly.specs.Listing.{line_of, hex_digit, separator, bytes_line, listing_from, listing}
use Rattle.assembler.specs.Text.{behind}
use Rattle.assembler.proofs.Stores.{behind-next, stored-next}
use Rattle.assembler.proofs.Most.{bytes-length}

abbrev pub seen : List ℕ → ℕ → ℕ → List ℕ
seen code start i = take (i - start) (drop start code)

abbrev pub rest : List ℕ → ℕ → ℕ → ℕ → List ℕ
rest code start i oreg = listing_from oreg (seen code start i) (drop i code)

seen_more : (code : List ℕ) (start i : ℕ) → start ≤ i → i < length code → seen code start (i + 1) ≡ seen code start i ++ (get_or code i 0 ∷ [])
seen_more code start i h l =
    let n : i + 1 - start ≡ suc (i - start) = omega arith in
    let s : start + (i - start) ≡ i = omega arith in
    rw (n, take-suc (drop start code) (i - start) 0 (omega (arith, length-drop start code)), get_or-drop start code (i - start) 0, s)

module _ (code : List ℕ) (start i oreg : ℕ) (l : i < length code) where
  pub rest-prefix : start ≤ i → is_prefix (get_or code i 0) ≡ true → rest code start i oreg ≡ rest code start (i + 1) (after_prefix oreg (get_or code i 0))
  unfolding listing_from
  rest-prefix h p = rw (seen_more code start i h l, drop-cons code i 0 l, p, add-one i)

  pub rest_line : is_prefix (get_or code i 0) ≡ false
      → rest code start i oreg ≡ line_of (function_of (get_or code i 0)) (with_nibble (get_or code i 0) oreg) ++ rest code (i + 1) (i + 1) 0
  unfolding listing_from
  rest_line p =
      let z : i + 1 - (i + 1) ≡ 0 = omega arith in
      rw (drop-cons code i 0 l, p, z, add-one i)

-- at the end the prefixes of a chain are left
pub rest_end : (code : List ℕ) (start i oreg : ℕ) → length code ≤ i → rest code start i oreg ≡ bytes_line (drop start code)
unfolding listing_from
rest_end code start i oreg h =
    rw (drop_of_length-le code {i = i} h, take_all (i - start) (drop start code) (omega (arith, length-drop start code)))

-- ---- how much is left

rest_line-length : (code : List ℕ) (start i oreg byte f o size : ℕ) → i < length code → byte ≡ get_or code i 0 → is_prefix byte ≡ false
    → f ≡ function_of byte → o ≡ with_nibble byte oreg → size ≡ length (line_of f o)
    → length (rest code start i oreg) ≡ size + length (rest code (i + 1) (i + 1) 0)
rest_line-length code start i oreg byte f o size l b p ef eo s =
    rw (rest_line code start i oreg l (rw (← b) p), ← b, ← ef, ← eo, s) (length-append (line_of f o) (rest code (i + 1) (i + 1) 0))

rest-end-length : (code : List ℕ) (start i oreg : ℕ) → length code ≤ i → length (rest code start i oreg) ≡ 3 * (length code - start)
rest-end-length code start i oreg h =
    rw (rest_end code start i oreg h) (omega (arith, bytes-length (drop start code), length-drop start code))

-- ---- the pass that measures: left is what is left of the room

pub record Measured (code : List ℕ) (room left oreg start i : ℕ) : Type 0 where
  pub here : i ≤ length code
  pub order : start ≤ i
  pub total : length (listing code) + left ≡ room + length (rest code start i oreg)

pub measured-start : (code : List ℕ) (room : ℕ) → Measured code room room 0 0 0
measured-start code room = record { here = omega arith; order = omega arith; total = omega arith }

module _ (code : List ℕ) (room left oreg start i byte : ℕ) (m : Measured code room left oreg start i) (l : i < length code) (b : byte ≡ get_or code i 0) where
  pub measured-prefix : (o : ℕ) → is_prefix byte ≡ true → o ≡ after_prefix oreg byte → Measured code room left o start (i + 1)
  measured-prefix o p e =
      record {
        here = omega arith;
        order = omega (arith, m.order);
        total = rw (e, b, ← rest-prefix code start i oreg l m.order (rw (← b) p)) m.total;
      }

  module _ (f o size : ℕ) (p : is_prefix byte ≡ false) (ef : f ≡ function_of byte) (eo : o ≡ with_nibble byte oreg) (s : size ≡ length (line_of f o)) where
    pub measured_line : size ≤ left → Measured code room (left - size) 0 (i + 1) (i + 1)
    measured_line h =
        record {
          here = omega arith;
          order = omega arith;
          total = omega (arith, m.total, rest_line-length code start i oreg byte f o size l b p ef eo s);
        }

    pub measured_short : left < size → false ≡ leb (length (listing code)) room
    measured_short h = sym (lt-leb (length (listing code)) room (omega (arith, m.total, rest_line-length code start i oreg byte f o size l b p ef eo s)))

pub measured-end : (code : List ℕ) (room left oreg start i : ℕ) → Measured code room left oreg start i → length code ≤ i
    → leb (length code - start) (left / 3) ≡ leb (length (listing code)) room
measured-end code room left oreg start i m h =
    let n = rest-end-length code start i oreg h in
    cases_lt (left / 3) (length code - start)
    (λ s. lt-leb (length code - start) (left / 3) s ∙ sym (lt-leb (length (listing code)) room (omega (arith, m.total, n))))
    (λ s. le-leb (length code - start) (left / 3) s ∙ sym (le-leb (length (listing code)) room (omega (arith, m.total, n))))

-- ---- the pass that writes: done is the text up to here, what is left goes behind it

pub record Listed (code text₀ text : List ℕ) (end oreg start i : ℕ) : Type 0 where
  pub done : List ℕ
  pub here : i ≤ length code
  pub order : start ≤ i
  pub whole : done ++ rest code start i oreg ≡ listing code
  pub place : end ≡ behind 0 done
  pub stored : text ≡ sets text₀ 0 done

module _ (code text₀ text : List ℕ) (end oreg start i byte : ℕ) (m : Listed code text₀ text end oreg start i) (l : i < length code) (b : byte ≡ get_or code i 0) where
  pub listed-prefix : (o : ℕ) → is_prefix byte ≡ true → o ≡ after_prefix oreg byte → Listed code text₀ text end o start (i + 1)
  listed-prefix o p e =
      let q : rest code start (i + 1) o ≡ rest code start i oreg = rw (e, b) (sym (rest-prefix code start i oreg l m.order (rw (← b) p))) in
      record {
        done = m.done;
        here = omega arith;
        order = omega (arith, m.order);
        whole = rw q m.whole;
        place = m.place;
        stored = m.stored;
      }

  pub listed_line : (f o end' : ℕ) (text' : List ℕ) → is_prefix byte ≡ false → f ≡ function_of byte → o ≡ with_nibble byte oreg → length text₀ < 2 ^ 64
      → (end' ≡ behind end (line_of f o)) × (text' ≡ sets text end (line_of f o)) → Listed code text₀ text' end' 0 (i + 1) (i + 1)
  listed_line f o end' text' p ef eo h e =
      let left : rest code start i oreg ≡ line_of f o ++ rest code (i + 1) (i + 1) 0 = rest_line code start i oreg l (rw (← b) p) ∙ rw (ef, eo, b) in
      record {
        done = m.done ++ line_of f o;
        here = omega arith;
        order = omega arith;
        whole =
            append_assoc m.done (line_of f o) (rest code (i + 1) (i + 1) 0) ∙ ap (λ (r : List ℕ). m.done ++ r) (sym left) ∙ m.whole;
        place = rw (e.0, m.place) (behind-next 0 m.done (line_of f o));
        stored = rw (e.1, m.stored, m.place) (stored-next text₀ 0 m.done (line_of f o) h);
      }

pub listed-end : (code text₀ text : List ℕ) (end oreg start i end' : ℕ) (text' : List ℕ) → Listed code text₀ text end oreg start i → length code ≤ i
    → length text₀ < 2 ^ 64 → (end' ≡ behind end (bytes_line (drop start code))) × (text' ≡ sets text end (bytes_line (drop start code)))
    → (end' ≡ behind 0 (listing code)) × (text' ≡ sets text₀ 0 (listing code))
listed-end code text₀ text end oreg start i end' text' m h t e =
    let tail = bytes_line (drop start code) in
    let all : m.done ++ tail ≡ listing code = ap (λ (r : List ℕ). m.done ++ r) (sym (rest_end code start i oreg h)) ∙ m.whole in (
      rw (e.0, m.place) (behind-next 0 m.done tail ∙ ap (behind 0) all),
      rw (e.1, m.stored, m.place) (stored-next text₀ 0 m.done tail t ∙ ap (sets text₀ 0) all),
    )

-- ---- the bytes of an unfinished chain: what is left of them goes from end on

pub record Turn (chain text₀ text : List ℕ) (at : ℕ) (left : List ℕ) (end : ℕ) : Type 0 where
  pub len : length text ≡ length text₀
  pub fits : end < 2 ^ 64
  pub place : behind end (bytes_line left) ≡ behind at (bytes_line chain)
  pub stored : sets text end (bytes_line left) ≡ sets text₀ at (bytes_line chain)

-- a byte more
pub turn_next : (chain text₀ text text' : List ℕ) (at end end' byte high low after : ℕ) (left others : List ℕ) → Turn chain text₀ text at left end
    → length text₀ < 2 ^ 64 → left ≡ byte ∷ others → high ≡ hex_digit (byte / 16) → low ≡ hex_digit (byte % 16) → after ≡ separator others
    → (end' ≡ behind end (high ∷ low ∷ after ∷ [])) × (text' ≡ sets text end (high ∷ low ∷ after ∷ [])) → Turn chain text₀ text' at others end'
unfolding bytes_line
turn_next chain text₀ text text' at end end' byte high low after left others t h el eh ew ea e =
    let three = high ∷ low ∷ after ∷ [] in
    let more : bytes_line left ≡ three ++ bytes_line others = rw (el, eh, ew, ea) in
    record {
      len = rw e.1 (length-sets text end three ∙ t.len);
      fits = omega (arith, e.0);
      place = rw e.0 (behind-next end three (bytes_line others) ∙ ap (behind end) (sym more) ∙ t.place);
      stored = rw (e.0, e.1) (stored-next text end three (bytes_line others) (omega (arith, t.len)) ∙ ap (sets text end) (sym more) ∙ t.stored);
    }

pub turn_end : (chain text₀ text : List ℕ) (at : ℕ) (left : List ℕ) (end : ℕ) → Turn chain text₀ text at left end → length left ≡ 0
    → (end ≡ behind at (bytes_line chain)) × (text ≡ sets text₀ at (bytes_line chain))
unfolding bytes_line
turn_end chain text₀ text at [] end t h = (omega (arith, t.place, t.fits), t.stored)
turn_end chain text₀ text at (byte ∷ left) end t h = absurd (omega arith)
