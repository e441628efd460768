-- Texts of shots in `01`, `b8` and `r8` are read back.
use Rattle.std.specs.Prelude.{if◌then◌else◌, replicate}
use Rattle.std.proofs.Common.{◌≡◌, ℕ, zero, suc, ◌+◌, ◌-◌, ◌*◌, ◌/◌, ◌%◌, ◌^◌, ◌<◌, ◌≤◌, Bool, true, false, List, [], ◌∷◌, ◌++◌, length, map, take, drop, All, Some, Result, Ok, Option, refl, sym, ap, subst, ◌∙◌, append_assoc, inl, inr, arith}
use Rattle.std.specs.List.{list_all, list_any, flat_map}
use Rattle.std.proofs.lemmas.Bool.{cases_eq, ne_eqb, eq-eqb, cond-false}
use Rattle.std.proofs.lemmas.Nat.{pow-add}
use Rattle.std.proofs.lemmas.List.{append-nil, take_at, drop_at, length-append, length-map, length-replicate}
use Rattle.std.proofs.lemmas.List.Elements.{All-head, All-tail}
use Rattle.fb_records.specs.Records.{Ending, at_end, Records, only, with_first_shot, with_line}
use Rattle.fb_records.specs.Lines.{without_return, bare}
use Rattle.fb_records.proofs.RecordLemmas.{records_one}
use Rattle.fb_shots_stim.specs.declared.answer.Kind.{Kind}
use Rattle.fb_shots_stim.specs.Shots.{places_from}
use Rattle.fb_shots_stim.specs.Text01.{is_bit, is_one, line_01, records_01}
use Rattle.fb_shots_stim.specs.BlocksB8.{block_len, low_bits, bits_of, is_set, block_b8, records_b8}
use Rattle.fb_shots_stim.specs.RunsR8.{read_r8, end_r8, records_r8}
use Rattle.fb_shots_stim.specs.CodedShots.{ones_from, coded_01, with_bit, bytes_from, coded_b8, run_of, runs_from, coded_r8, ReadsBack}
use Rattle.fb_shots_stim.proofs.Lemmas01.{line_exact, bits_hold, bits_return}
use Rattle.fb_shots_stim.proofs.LemmasB8.{length_bits, records_nothing, block_gives}
use Rattle.fb_shots_stim.proofs.LemmasR8.{read_long, read_hit, read_end}
use Rattle.fb_shots_stim.proofs.WordBits.{low_append}

-- what each text is read as first, all are
pub reads_all : (records : ℕ → List ℕ → Records (List ℕ) Kind) (coded : List Bool → List ℕ) (n : ℕ) → records n [] ≡ only at_end
    → ((bits : List Bool) (more : List ℕ) → length bits ≡ n → records n (coded bits ++ more) ≡ with_first_shot (ones_from 0 bits) (records n more))
    → (shots : List (List Bool)) → All (λ bits. length bits ≡ n) shots → records n (flat_map coded shots) ≡ record { shots = map (ones_from 0) shots; ending = at_end }
reads_all records coded n nothing first [] all = nothing
reads_all records coded n nothing first (bits ∷ shots) all =
    first bits (flat_map coded shots) (All-head (λ b. length b ≡ n) bits shots all)
    ∙ ap (with_first_shot (ones_from 0 bits)) (reads_all records coded n nothing first shots (All-tail (λ b. length b ≡ n) bits shots all))

-- ---- `01`

abbrev char_of : Bool → ℕ
char_of bit = if bit then 49 else 48

chars_are_bits : (bits : List Bool) → list_all is_bit (map char_of bits) ≡ true
chars_are_bits [] = refl
chars_are_bits (true ∷ bits) = chars_are_bits bits
chars_are_bits (false ∷ bits) = chars_are_bits bits

chars_ones : (i : ℕ) (bits : List Bool) → places_from is_one i (map char_of bits) ≡ ones_from i bits
chars_ones i [] = refl
chars_ones i (true ∷ bits) = ap (λ (l : List ℕ). i ∷ l) (chars_ones (i + 1) bits)
chars_ones i (false ∷ bits) = chars_ones (i + 1) bits

first_01 : (n : ℕ) (bits : List Bool) (more : List ℕ) → length bits ≡ n → records_01 n (coded_01 bits ++ more) ≡ with_first_shot (ones_from 0 bits) (records_01 n more)
first_01 n bits more e =
    let line = map char_of bits in
    let all = chars_are_bits bits in
    let judged : line_01 n (without_return line) ≡ Ok (Some (ones_from 0 bits)) =
    ap (line_01 n) (bits_return line all) ∙ line_exact n line all (length-map bits char_of ∙ e) ∙ ap (λ (l : List ℕ). Ok (Some l)) (chars_ones 0 bits) in
    ap (records_01 n) (append_assoc line (10 ∷ []) more)
    ∙ records_one (bare (line_01 n)) line more (bits_hold 10 line refl all)
    ∙ ap (λ (r : Result (Option (List ℕ)) Kind). with_line r (records_01 n more)) judged

pub reads_back_01 : ReadsBack records_01 coded_01
reads_back_01 n shots some small all = reads_all records_01 coded_01 n refl (first_01 n) shots all

-- ---- `b8`

abbrev bit_of : Bool → ℕ
bit_of bit = if bit then 1 else 0

zero_bits : (k : ℕ) → low_bits k 0 ≡ replicate k 0
unfolding low_bits
zero_bits zero = refl
zero_bits (suc k) = ap (λ (l : List ℕ). 0 ∷ l) (zero_bits k)

one_bit : (bit : Bool) → low_bits 1 (bit_of bit) ≡ bit_of bit ∷ []
unfolding low_bits
one_bit true = refl
one_bit false = refl

no_low : (byte : ℕ) → low_bits 0 byte ≡ []
unfolding low_bits
no_low byte = refl

with_bit_is : (byte place : ℕ) (bit : Bool) → with_bit byte place bit ≡ byte + bit_of bit * 2 ^ place
with_bit_is byte place true = omega arith
with_bit_is byte place false = omega arith

low_more : (byte place : ℕ) (bit : Bool) → byte < 2 ^ place → (with_bit byte place bit < 2 ^ (place + 1)) × (low_bits (place + 1) (with_bit byte place bit) ≡ low_bits place byte ++ bit_of bit ∷ [])
low_more byte place bit lt =
    let is = with_bit_is byte place bit in (
      below byte place bit is lt,
      low_append place 1 byte (bit_of bit) (with_bit byte place bit) lt is ∙ ap (λ (l : List ℕ). low_bits place byte ++ l) (one_bit bit),
    )
  where
    below : (byte place : ℕ) (bit : Bool) → with_bit byte place bit ≡ byte + bit_of bit * 2 ^ place → byte < 2 ^ place → with_bit byte place bit < 2 ^ (place + 1)
    below byte place true is lt = omega (arith, pow-add 2 place 1)
    below byte place false is lt = omega (arith, pow-add 2 place 1)

-- the bits of the bytes, behind those of the first byte
pub record AreBytes (byte place : ℕ) (bits : List Bool) : Type 0 where
  pub zeros : ℕ
  pub few : zeros < 8
  pub all : bits_of (bytes_from byte place bits) ≡ low_bits place byte ++ (map bit_of bits ++ replicate zeros 0)

bytes_none : (byte place : ℕ) → place < 8 → byte < 2 ^ place → AreBytes byte place []
bytes_none byte place lt below = elim (cases_eq place 0) [
  | inl e ↦ record {
    zeros = 0;
    few = omega arith;
    all = subst (λ (p : ℕ). bits_of (bytes_from byte p []) ≡ low_bits p byte ++ []) (sym e) (sym (ap (λ (l : List ℕ). l ++ []) (no_low byte)));
  }
  | inr ne ↦ record {
    zeros = 8 - place;
    few = omega arith;
    all = ap bits_of (cond-false _ _ _ (ne_eqb place 0 ne)) ∙ append-nil (low_bits 8 byte) ∙ ap (λ (k : ℕ). low_bits k byte) (let e : 8 ≡ place + (8 - place) = omega arith in e)
        ∙ low_append place (8 - place) byte 0 byte below (omega arith) ∙ ap (λ (l : List ℕ). low_bits place byte ++ l) (zero_bits (8 - place));
  }
]

are_bytes : (byte place : ℕ) (bits : List Bool) → place < 8 → byte < 2 ^ place → AreBytes byte place bits
are_bytes byte place [] lt below = bytes_none byte place lt below
are_bytes byte place (bit ∷ bits) lt below = elim (cases_eq place 7) [
  | inl e ↦
      let more = low_more byte place bit below in
      let rest = are_bytes 0 0 bits (omega arith) (omega arith) in
      record {
        zeros = rest.zeros;
        few = rest.few;
        all = rw (eq-eqb place 7 e) (
            ap (λ (k : ℕ). low_bits k (with_bit byte place bit) ++ bits_of (bytes_from 0 0 bits)) (let s : 8 ≡ place + 1 = omega arith in s)
            ∙ ap (λ (l : List ℕ). l ++ bits_of (bytes_from 0 0 bits)) more.1
            ∙ ap (λ (l : List ℕ). (low_bits place byte ++ bit_of bit ∷ []) ++ l) (rest.all ∙ ap (λ (l : List ℕ). l ++ (map bit_of bits ++ replicate rest.zeros 0)) (no_low 0))
            ∙ append_assoc (low_bits place byte) (bit_of bit ∷ []) (map bit_of bits ++ replicate rest.zeros 0)
            );
      }
  | inr ne ↦
      let more = low_more byte place bit below in
      let rest = are_bytes (with_bit byte place bit) (place + 1) bits (omega arith) more.0 in
      record {
        zeros = rest.zeros;
        few = rest.few;
        all = rw (ne_eqb place 7 ne) (
            rest.all ∙ ap (λ (l : List ℕ). l ++ (map bit_of bits ++ replicate rest.zeros 0)) more.1
            ∙ append_assoc (low_bits place byte) (bit_of bit ∷ []) (map bit_of bits ++ replicate rest.zeros 0)
            );
      }
]

bits_ones : (i : ℕ) (bits : List Bool) → places_from is_set i (map bit_of bits) ≡ ones_from i bits
bits_ones i [] = refl
bits_ones i (true ∷ bits) = ap (λ (l : List ℕ). i ∷ l) (bits_ones (i + 1) bits)
bits_ones i (false ∷ bits) = bits_ones (i + 1) bits

none_set : (k : ℕ) → list_any is_set (replicate k 0) ≡ false
none_set zero = refl
none_set (suc k) = none_set k

block_read : (n : ℕ) (bits : List Bool) (zeros : ℕ) (block : List ℕ) → bits_of block ≡ map bit_of bits ++ replicate zeros 0 → length bits ≡ n → block_b8 n block ≡ Ok (Some (ones_from 0 bits))
block_read n bits zeros block is e =
    let size : length (map bit_of bits) ≡ n = length-map bits bit_of ∙ e in
    let none : list_any is_set (drop n (bits_of block)) ≡ false =
    ap (λ (l : List ℕ). list_any is_set (drop n l)) is ∙ ap (list_any is_set) (drop_at (map bit_of bits) (replicate zeros 0) n size) ∙ none_set zeros in
    cond-false _ _ _ none
    ∙ ap (λ (l : List ℕ). Ok (Some (places_from is_set 0 l))) (ap (take n) is ∙ take_at (map bit_of bits) (replicate zeros 0) n size)
    ∙ ap (λ (l : List ℕ). Ok (Some l)) (bits_ones 0 bits)

first_b8 : (n : ℕ) (bits : List Bool) (more : List ℕ) → length bits ≡ suc n → records_b8 (suc n) (coded_b8 bits ++ more) ≡ with_first_shot (ones_from 0 bits) (records_b8 (suc n) more)
first_b8 n bits more e =
    let block = coded_b8 bits in
    let are = are_bytes 0 0 bits (omega arith) (omega arith) in
    let is : bits_of block ≡ map bit_of bits ++ replicate are.zeros 0 = are.all ∙ ap (λ (l : List ℕ). l ++ (map bit_of bits ++ replicate are.zeros 0)) (no_low 0) in
    let few = are.few in
    let size : length block ≡ block_len (suc n) =
    omega (arith, length_bits block, ap length is, length-append (map bit_of bits) (replicate are.zeros 0), length-map bits bit_of, length-replicate {A = ℕ} are.zeros 0) in
    let front : take (block_len (suc n)) (block ++ more) ≡ block = take_at block more (block_len (suc n)) size in
    let given = block_gives n (block ++ more) true (Ok (Some (ones_from 0 bits))) (omega (arith, length-append block more))
    (ap (block_b8 (suc n)) front ∙ block_read (suc n) bits are.zeros block is e) in
    given.0 ∙ ap (λ (l : List ℕ). with_first_shot (ones_from 0 bits) (records_b8 (suc n) l)) (drop_at block more (block_len (suc n)) size)

pub reads_back_b8 : ReadsBack records_b8 coded_b8
reads_back_b8 zero shots some small all = absurd (omega arith)
reads_back_b8 (suc n) shots some small all = reads_all records_b8 coded_b8 (suc n) (records_nothing n) (first_b8 n) shots all

-- ---- `r8`

long_read : (n : ℕ) (ending : ℕ → Ending Kind) (q place : ℕ) (named rest : List ℕ) → place + q * 255 ≤ n → read_r8 n ending place named (replicate q 255 ++ rest) ≡ read_r8 n ending (place + q * 255) named rest
long_read n ending zero place named rest le = ap (λ (k : ℕ). read_r8 n ending k named rest) (let e : place ≡ place + 0 * 255 = omega arith in e)
long_read n ending (suc q) place named rest le =
    read_long n ending place 255 named (replicate q 255 ++ rest) (omega arith) refl
    ∙ long_read n ending q (place + 255) named rest (omega arith)
    ∙ ap (λ (k : ℕ). read_r8 n ending k named rest) (let e : place + 255 + q * 255 ≡ place + suc q * 255 = omega arith in e)

-- a run up to its last byte
run_read : (n : ℕ) (ending : ℕ → Ending Kind) (place zeros : ℕ) (named more : List ℕ) → place + zeros ≤ n
    → read_r8 n ending place named (run_of zeros ++ more) ≡ read_r8 n ending (place + zeros / 255 * 255) named (zeros % 255 ∷ more)
run_read n ending place zeros named more le =
    ap (read_r8 n ending place named) (append_assoc (replicate (zeros / 255) 255) (zeros % 255 ∷ []) more)
    ∙ long_read n ending (zeros / 255) place named (zeros % 255 ∷ more) (omega arith)

run_hit : (n : ℕ) (ending : ℕ → Ending Kind) (place zeros : ℕ) (named more : List ℕ) → place + zeros < n
    → read_r8 n ending place named (run_of zeros ++ more) ≡ read_r8 n ending (place + zeros + 1) (named ++ (place + zeros) ∷ []) more
run_hit n ending place zeros named more lt =
    let sum : place + zeros / 255 * 255 + zeros % 255 ≡ place + zeros = omega arith in
    run_read n ending place zeros named more (omega arith)
    ∙ read_hit n ending (place + zeros / 255 * 255) (zeros % 255) named more (omega arith) (λ (e : zeros % 255 ≡ 255). omega arith)
    ∙ ap (λ (k : ℕ). read_r8 n ending (k + 1) (named ++ k ∷ []) more) sum

run_end : (n : ℕ) (ending : ℕ → Ending Kind) (place zeros : ℕ) (named more : List ℕ) → place + zeros ≡ n
    → read_r8 n ending place named (run_of zeros ++ more) ≡ with_first_shot named (read_r8 n ending 0 [] more)
run_end n ending place zeros named more e =
    run_read n ending place zeros named more (omega arith)
    ∙ read_end n ending (place + zeros / 255 * 255) (zeros % 255) named more (omega arith) (λ (f : zeros % 255 ≡ 255). omega arith)

runs_read : (n : ℕ) (ending : ℕ → Ending Kind) (place zeros : ℕ) (named : List ℕ) (bits : List Bool) (more : List ℕ) → place + zeros + length bits ≡ n
    → read_r8 n ending place named (runs_from zeros bits ++ more) ≡ with_first_shot (named ++ ones_from (place + zeros) bits) (read_r8 n ending 0 [] more)
runs_read n ending place zeros named [] more e =
    run_end n ending place zeros named more (omega arith) ∙ ap (λ (l : List ℕ). with_first_shot l (read_r8 n ending 0 [] more)) (sym (append-nil named))
runs_read n ending place zeros named (true ∷ bits) more e =
    let at = place + zeros in
    ap (read_r8 n ending place named) (append_assoc (run_of zeros) (runs_from 0 bits) more)
    ∙ run_hit n ending place zeros named (runs_from 0 bits ++ more) (omega arith)
    ∙ runs_read n ending (at + 1) 0 (named ++ at ∷ []) bits more (omega arith)
    ∙ ap (λ (k : ℕ). with_first_shot ((named ++ at ∷ []) ++ ones_from k bits) (read_r8 n ending 0 [] more)) (let s : at + 1 + 0 ≡ at + 1 = omega arith in s)
    ∙ ap (λ (l : List ℕ). with_first_shot l (read_r8 n ending 0 [] more)) (append_assoc named (at ∷ []) (ones_from (at + 1) bits))
runs_read n ending place zeros named (false ∷ bits) more e =
    runs_read n ending place (zeros + 1) named bits more (omega arith)
    ∙ ap (λ (k : ℕ). with_first_shot (named ++ ones_from k bits) (read_r8 n ending 0 [] more)) (let s : place + (zeros + 1) ≡ place + zeros + 1 = omega arith in s)

pub reads_back_r8 : ReadsBack records_r8 coded_r8
reads_back_r8 n shots some small all =
    reads_all records_r8 coded_r8 n refl (λ bits more e. runs_read n end_r8 0 0 [] bits more (omega arith)) shots all
