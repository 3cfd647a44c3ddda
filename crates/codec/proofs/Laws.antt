-- The laws of messages: a command's own code, a request's refusal by the place of the first test that applies, and demand 2's "by the same
-- field lists": what is written by a list reads back by it. Assumes nothing.
-- The definitions stand in specs/Laws.antt.
use Rattle.std.specs.Prelude.{ℕ, zero, suc, ◌+◌, ◌*◌, ◌^◌, ◌≤◌, ◌<◌, ◌≡◌, refl, Bool, true, false, cond, List, [], ◌∷◌, ◌++◌, map, eqb, length, get_or, take, Ok, Err}
use Rattle.std.specs.Prelude.{drop}
use Rattle.std.proofs.Common.{sym, ap, ◌∙◌, ⊎_elim, append_assoc, arith, add-one, not-suc-le-zero, le_of_suc-le-suc, length-take, take_at, take-suc, eqb-true}
use Rattle.std.proofs.lemmas.Bool.{false≢true}
use Rattle.std.proofs.Math.Seq.{drop-append-add}
use Rattle.laws.specs.Tests.{decided, cond_keeps, not_yes, and, is_yes_lem, neither}
use Rattle.refusal.specs.Refusals.{test_at, refusal_at, Past, refused_at, past_all, judged}
use Rattle.laws.specs.Put.{Put, then, retext}
use Rattle.endian.specs.Endian.{u32_at, u32_at_lem, bytes4}
use Rattle.chksum.specs.Chksum.{closed, response_sum}
use Rattle.chksum.specs.Laws.{closed_is}
use Rattle.codec.specs.declared.Command.{Command}
use Rattle.codec.specs.declared.Command.TheVariants.{Clkc, Klod, Kunl, Fers, Fsta, Ehdl, Rhpk, Unknown}
use Rattle.codec.specs.Fields.{code_of, command_of, known, Field, Mek, field_discrete, same, among, width, listed, answered, request_fields, response_fields, length_of, place_of}
use Rattle.codec.specs.Fields.{Numbers, number_at, TimeoutIn, TagIn, bytes_at, mek_at, joined, written, numbers_in, held_by, response_of, response_in, least_room}
use Rattle.codec.specs.Request.{request_tests}
use Rattle.codec.specs.Laws.{index_of, sized, request_bytes, request_of}

-- a code is a command's own, if 3 does not refuse it
record Own (code : ℕ) (command : Command) : Type 0 where
  is : known command ≡ true → code ≡ code_of command

-- "The code names the command", and only its own code does
pub code_of_lem : (code : ℕ) → known (command_of code) ≡ true → code ≡ code_of (command_of code)
code_of_lem code = (or Clkc (or Klod (or Kunl (or Fers (or Fsta (or Ehdl (or Rhpk (record { is = λ k. absurd (false≢true k) })))))))).is
  where
    or : (command : Command) {rest : Command} → Own code rest → Own code (cond (eqb code (code_of command)) command rest)
    or command {rest} r = cond_keeps (Own code) (eqb code (code_of command)) command rest (λ y. record { is = λ _. eqb-true _ _ y }) (λ _. r)

-- ---- which of a request's tests gives the refusal, by the test's place; none where none does

module _ (command : Command) (code : ℕ) (request : List ℕ) where
  pub request_at : (k : ℕ) → Past k (request_tests command code request) → test_at (request_tests command code request) k ≡ true
      → Err (refusal_at (request_tests command code request) k) ≡ judged (request_tests command code request)
  request_at k = refused_at Err (Ok tt) k (request_tests command code request)

  pub request_past : Past (length (request_tests command code request)) (request_tests command code request) → Ok tt ≡ judged (request_tests command code request)
  request_past = past_all Err (Ok tt) (request_tests command code request)

-- ---- "Requests are read and responses written by the same field lists": what was written by a list reads back by it

same_is : (f g : Field) → same f g ≡ true → f ≡ g
same_is f g = is_yes_lem (field_discrete f g)

-- so each field's bytes stand at its place, whatever follows the message
pub stands : (fields : List Field) (parts : List (List ℕ)) (field : Field) (rest : List ℕ) → sized fields parts ≡ true → among field fields ≡ true
    → bytes_at fields field (joined parts ++ rest) ≡ get_or parts (index_of field fields) []
stands [] parts field rest s a = absurd (false≢true a)
stands (f ∷ fields) [] field rest s a = absurd (false≢true s)
stands (f ∷ fields) (part ∷ parts) field rest s a =
    let both = and (eqb (length part) (width f)) (sized fields parts) s in
    let long : length part ≡ width f = eqb-true _ _ both.0 in
    let apart = append_assoc part (joined parts) rest in
    ⊎_elim
    (λ (y : same field f ≡ true).
    rw (y, apart) (ap (λ (g : Field). take (width g) (part ++ (joined parts ++ rest))) (same_is field f y) ∙ take_at part (joined parts ++ rest) (width f) long))
    (λ (n : same field f ≡ false).
    rw (n, apart, ← long) (ap (take (width field)) (drop-append-add part (joined parts ++ rest) (place_of field fields)) ∙ stands fields parts field rest both.1 (rw n at a)))
    (decided (same field f))

-- a u32 field reads as the number whose bytes stand there
number_stands : (fields : List Field) (parts : List (List ℕ)) (field : Field) (rest : List ℕ) (v : ℕ) → sized fields parts ≡ true → among field fields ≡ true
    → same Mek field ≡ false → get_or parts (index_of field fields) [] ≡ bytes4 v → number_at fields field (joined parts ++ rest) ≡ v
number_stands fields parts field rest v s a n e =
    let four : width field ≡ 4 = rw n in
    u32_at_lem _ _ _ (ap (λ (k : ℕ). take k (drop (place_of field fields) (joined parts ++ rest))) (sym four) ∙ stands fields parts field rest s a ∙ e)

-- ---- a request

-- the timeout, and the tag, stand at the same place in each list that has one
pub timeout_in : (request : List ℕ) {timeout : ℕ} → timeout ≡ u32_at request 8 → TimeoutIn request timeout
timeout_in request e Clkc a = e
timeout_in request e Klod a = e
timeout_in request e Kunl a = e
timeout_in request e Fers a = absurd (false≢true a)
timeout_in request e Fsta a = absurd (false≢true a)
timeout_in request e Ehdl a = absurd (false≢true a)
timeout_in request e Rhpk a = absurd (false≢true a)
timeout_in request e Unknown a = absurd (false≢true a)

pub tag_in : (request : List ℕ) {tag : ℕ} → tag ≡ u32_at request 12 + 2 ^ 32 * u32_at request 16 → TagIn request tag
tag_in request e Clkc a = absurd (false≢true a)
tag_in request e Klod a = e
tag_in request e Kunl a = e
tag_in request e Fers a = absurd (false≢true a)
tag_in request e Fsta a = absurd (false≢true a)
tag_in request e Ehdl a = absurd (false≢true a)
tag_in request e Rhpk a = absurd (false≢true a)
tag_in request e Unknown a = absurd (false≢true a)

-- what is made of each field stands at its place
made : (f : Field → List ℕ) (fields : List Field) (field : Field) → among field fields ≡ true → get_or (map f fields) (index_of field fields) [] ≡ f field
made f [] field a = absurd (false≢true a)
made f (g ∷ fields) field a =
    ⊎_elim
    (λ (y : same field g ≡ true). rw y (ap f (sym (same_is field g y))))
    (λ (n : same field g ≡ false). rw n (made f fields field (rw n at a)))
    (decided (same field g))

-- each has its bytes
field_sized : (value : Field → ℕ) (mek : List ℕ) → length mek ≡ 64 → (is_mek : Bool) (v : ℕ) → eqb (length (cond is_mek mek (bytes4 v))) (cond is_mek 64 4) ≡ true
field_sized value mek l true v = rw l
field_sized value mek l false v = refl

request_sized : (value : Field → ℕ) (mek : List ℕ) → length mek ≡ 64 → (fields : List Field) → sized fields (map (request_bytes value mek) fields) ≡ true
request_sized value mek l [] = refl
request_sized value mek l (f ∷ fields) = rw (field_sized value mek l (same Mek f) (value f)) (request_sized value mek l fields)

-- one that is written by its command's list reads back by it: its numbers and its MEK
module _ (value : Field → ℕ) (mek : List ℕ) (l : length mek ≡ 64) (command : Command) (rest : List ℕ) where
  pub request_reads : (field : Field) → among field (request_fields command) ≡ true → same Mek field ≡ false
      → number_at (request_fields command) field (request_of value mek command ++ rest) ≡ value field
  request_reads field a n =
      number_stands (request_fields command) (map (request_bytes value mek) (request_fields command)) field rest (value field) (request_sized value mek l (request_fields command)) a n
      (made (request_bytes value mek) (request_fields command) field a ∙ rw n)

  pub mek_reads : among Mek (request_fields command) ≡ true → mek_at (request_fields command) (request_of value mek command ++ rest) ≡ mek
  mek_reads a =
      stands (request_fields command) (map (request_bytes value mek) (request_fields command)) Mek rest (request_sized value mek l (request_fields command)) a
      ∙ made (request_bytes value mek) (request_fields command) Mek a

pub mek_most : (fields : List Field) (message : List ℕ) → length (mek_at fields message) ≤ 64
mek_most fields message = simp length-take (omega arith)

-- ---- a response

-- the front of a list has no field that the whole has not; and no list of handles has more than six
front_lacks : (field : Field) (k : ℕ) (fields : List Field) → among field fields ≡ false → among field (take k fields) ≡ false
front_lacks field zero fields n = refl
front_lacks field (suc k) [] n = refl
front_lacks field (suc k) (f ∷ fields) n =
    let both = neither (same field f) (among field fields) n in
    rw both.0 (front_lacks field k fields both.1)

pub list_long : (count : ℕ) → count ≤ 3 → 2 * count ≡ length (listed count)
list_long count l = simp length-take (omega arith)

pub list_full : (count : ℕ) → 3 ≤ count → 6 ≡ length (listed count)
list_full count l = simp length-take (omega arith)

-- it has no MEK, and numbers enough
no_mek : (command : Command) (numbers : Numbers) → among Mek (response_fields command numbers) ≡ false
no_mek Clkc numbers = refl
no_mek Klod numbers = refl
no_mek Kunl numbers = refl
no_mek Fers numbers = refl
no_mek Fsta numbers = refl
no_mek Ehdl numbers = front_lacks Mek (2 * (get_or numbers 0 0)) (listed 3) refl
no_mek Rhpk numbers = refl
no_mek Unknown numbers = refl

pub enough : (command : Command) (numbers : Numbers) → length (answered command numbers) ≤ length (numbers_in numbers)
enough Clkc numbers = omega arith
enough Klod numbers = omega arith
enough Kunl numbers = omega arith
enough Fers numbers = omega arith
enough Fsta numbers = omega arith
enough Ehdl numbers = omega (arith, length-take (2 * (get_or numbers 0 0)) (listed 3))
enough Rhpk numbers = omega arith
enough Unknown numbers = omega arith

-- so that each field is a u32: the list's length, and the bytes of as many numbers
u32_length : (fields : List Field) → among Mek fields ≡ false → length_of fields ≡ 4 * length fields
u32_length [] n = refl
u32_length (f ∷ fields) n =
    let both = neither (same Mek f) (among Mek fields) n in
    rw both.0 (omega (arith, u32_length fields both.1))

-- EHDL's: "24, 32 or 40 bytes"
pub list_bytes : (numbers : Numbers) → get_or numbers 0 0 ≤ 3 → length_of (response_fields Ehdl numbers) ≡ 16 + 8 * get_or numbers 0 0
list_bytes numbers l = omega (arith, u32_length (response_fields Ehdl numbers) (no_mek Ehdl numbers), list_long (get_or numbers 0 0) l)

u32_sized : (fields : List Field) (numbers : List ℕ) → among Mek fields ≡ false → length fields ≤ length numbers → sized fields (map bytes4 numbers) ≡ true
u32_sized [] numbers n l = refl
u32_sized (f ∷ fields) [] n l = absurd (omega arith)
u32_sized (f ∷ fields) (v ∷ numbers) n l =
    let both = neither (same Mek f) (among Mek fields) n in
    rw both.0 (u32_sized fields numbers both.1 (omega arith))

-- the bytes of number k
number_bytes : (numbers : List ℕ) (k : ℕ) → k < length numbers → get_or (map bytes4 numbers) k [] ≡ bytes4 (get_or numbers k 0)
number_bytes [] k l = absurd (not-suc-le-zero l)
number_bytes (v ∷ numbers) zero l = refl
number_bytes (v ∷ numbers) (suc k) l = number_bytes numbers k (le_of_suc-le-suc l)

among_index : (field : Field) (fields : List Field) → among field fields ≡ true → index_of field fields < length fields
among_index field [] a = absurd (false≢true a)
among_index field (f ∷ fields) a =
    ⊎_elim
    (λ (y : same field f ≡ true). rw y (omega arith))
    (λ (n : same field f ≡ false). rw n (omega (arith, among_index field fields (rw n at a))))
    (decided (same field f))

-- so every response has room in the least buffer
pub fits_least : (command : Command) (numbers : Numbers) → 12 + 4 * length (answered command numbers) ≤ least_room
fits_least command numbers = omega (arith, enough command numbers)

-- what is read of a response: each field's number, and the sum as chksum
module _ (command : Command) (numbers : Numbers) (rest : List ℕ) where
  abbrev all : List ℕ
  all = response_sum (written (held_by command numbers)) ∷ held_by command numbers

  as_many : length (response_fields command numbers) ≤ length all
  as_many = simp length-take (omega (arith, enough command numbers))

  pub response_reads : (field : Field) → among field (response_fields command numbers) ≡ true
      → number_at (response_fields command numbers) field (response_of command numbers ++ rest) ≡ get_or all (index_of field (response_fields command numbers)) 0
  response_reads field a =
      number_stands (response_fields command numbers) (map bytes4 all) field rest (get_or all (index_of field (response_fields command numbers)) 0)
      (u32_sized (response_fields command numbers) all (no_mek command numbers) as_many) a
      (not_yes _ (λ y. false≢true (sym (no_mek command numbers) ∙ ap (λ (g : Field). among g (response_fields command numbers)) (same_is Mek field y) ∙ a)))
      (number_bytes all (index_of field (response_fields command numbers)) (omega (arith, among_index field (response_fields command numbers) a, as_many)))

-- ---- a response as it is written

-- one number after the other
written_append : (a b : List ℕ) → written (a ++ b) ≡ written a ++ written b
written_append [] b = refl
written_append (v ∷ a) b = ap (λ (l : List ℕ). bytes4 v ++ l) (written_append a b)

pub written_next : (numbers : List ℕ) (k : ℕ) → k < length numbers → written (take k numbers) ++ bytes4 (get_or numbers k 0) ≡ written (take (k + 1) numbers)
written_next numbers k l = rw (add-one, take-suc numbers k 0) (sym (written_append (take k numbers) (get_or numbers k 0 ∷ [])))

-- one number more, whatever the code calls it
pub written_more : (numbers : List ℕ) (k : ℕ) {v at next last : ℕ} {before middle after : List ℕ} → k < length numbers
    → Put at (written (take k numbers)) before middle next → Put next (bytes4 v) middle after last → v ≡ get_or numbers k 0
    → Put at (written (take (k + 1) numbers)) before after last
written_more numbers k l p q e = retext (written_next numbers k l) (then p (rw e at q))

written_long : (numbers : List ℕ) → length (written numbers) ≡ 4 * length numbers
written_long [] = refl
written_long (v ∷ numbers) = omega (arith, written_long numbers)

-- seven numbers are a response's
pub seven : (numbers : List ℕ) → length numbers ≡ 7 → numbers_in numbers ≡ numbers
seven [] l = absurd (omega arith)
seven (a ∷ []) l = absurd (omega arith)
seven (a ∷ b ∷ []) l = absurd (omega arith)
seven (a ∷ b ∷ c ∷ []) l = absurd (omega arith)
seven (a ∷ b ∷ c ∷ d ∷ []) l = absurd (omega arith)
seven (a ∷ b ∷ c ∷ d ∷ e ∷ []) l = absurd (omega arith)
seven (a ∷ b ∷ c ∷ d ∷ e ∷ f ∷ []) l = absurd (omega arith)
seven (a ∷ b ∷ c ∷ d ∷ e ∷ f ∷ g ∷ []) l = refl
seven (a ∷ b ∷ c ∷ d ∷ e ∷ f ∷ g ∷ h ∷ rest) l = absurd (omega arith)

pub written_most : (numbers : List ℕ) (k : ℕ) → length (written (take k numbers)) ≤ 4 * k
written_most numbers k = omega (arith, written_long (take k numbers), length-take k numbers)

pub response_long : (command : Command) (numbers : Numbers) → length (response_of command numbers) ≡ length_of (response_fields command numbers)
response_long command numbers =
    omega (
      arith,
      enough command numbers,
      written_long (held_by command numbers),
      length-take (length (answered command numbers)) (numbers_in numbers),
      u32_length (response_fields command numbers) (no_mek command numbers),
    )

-- the fields after chksum, then chksum
pub responded : (command : Command) (numbers : Numbers) {before middle after : List ℕ} {n : ℕ} → Put 4 (written (held_by command numbers)) before middle n
    → after ≡ closed n middle → (n ≡ length_of (response_fields command numbers)) × (after ≡ response_in command numbers before)
responded command numbers {before} {n = n} p q =
    let long : n ≡ length_of (response_fields command numbers) = omega (arith, p.is_next, response_long command numbers) in
    (long, closed_is p q ∙ ap (λ (k : ℕ). response_of command numbers ++ drop k before) long)
