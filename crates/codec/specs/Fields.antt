-- Document 01, "Mailbox", the table, request P6's two messages and request P8's field: the commands, their codes, and one field list for each request and
-- each response, from which requests are read and responses written. Assumes nothing.
use Rattle.std.specs.Prelude.{ℕ, ◌+◌, ◌*◌, ◌^◌, ◌≡◌, Bool, true, false, cond, ◌||◌, List, [], ◌∷◌, ◌++◌, map, eqb, length, take, drop, get_or}
use Rattle.laws.specs.Tests.{is_yes}
use Rattle.endian.specs.Endian.{u32_at, bytes4}
use Rattle.chksum.specs.Chksum.{summed}
use Rattle.codec.specs.declared.Command.{Command}
use Rattle.codec.specs.declared.Command.TheVariants.{Clkc, Klod, Kunl, Fers, Fsta, Ehdl, Rhpk, Unknown}

-- ---- the column "code"

-- a command's code; no code names an unknown one
abbrev pub code_of : Command → ℕ
code_of Clkc = 0x434C_4B43
code_of Klod = 0x4B4C_4F44
code_of Kunl = 0x4B55_4E4C
code_of Fers = 0x4645_5253
code_of Fsta = 0x4653_5441
code_of Ehdl = 0x4548_444C
code_of Rhpk = 0x5248_504B
code_of Unknown = 0

-- "The code names the command"
abbrev pub command_of : (code : ℕ) → Command
command_of code =
    cond (eqb code (code_of Clkc)) Clkc
    (cond (eqb code (code_of Klod)) Klod
    (cond (eqb code (code_of Kunl)) Kunl
    (cond (eqb code (code_of Fers)) Fers
    (cond (eqb code (code_of Fsta)) Fsta
    (cond (eqb code (code_of Ehdl)) Ehdl
    (cond (eqb code (code_of Rhpk)) Rhpk
    Unknown))))))

-- the codes that 3 does not refuse
abbrev pub known : Command → Bool
known Clkc = true
known Klod = true
known Kunl = true
known Fers = true
known Fsta = true
known Ehdl = true
known Rhpk = true
known Unknown = false

-- ---- fields

-- the names of the table's fields; request P6's are document 003's, `handle` and `hpke_algorithm` with their place in the list; the fuses
-- newly set are request P8's
pub data Field : Type 0 where
  Chksum : Field
  Reserved : Field
  FipsStatus : Field
  CmdTimeout : Field
  TagLow : Field
  TagHigh : Field
  Mek : Field
  Partition : Field
  Place : Field
  ShortPairs : Field
  FirstShort : Field
  NewFuses : Field
  TheActiveSlot : Field
  HekAvailable : Field
  HpkeHandleCount : Field
  Handle0 : Field
  HpkeAlgorithm0 : Field
  Handle1 : Field
  HpkeAlgorithm1 : Field
  Handle2 : Field
  HpkeAlgorithm2 : Field
  HpkeHandle : Field
  deriving Discrete as field_discrete

-- one field
abbrev pub same : Field → Field → Bool
same f g = is_yes (field_discrete f g)

-- a field of the list
abbrev pub among : Field → List Field → Bool
among field [] = false
among field (f ∷ fields) = same field f || among field fields

-- "Little-endian u32 fields"; "64 MEK bytes"
abbrev pub width : Field → ℕ
width field = cond (same Mek field) 64 4

-- the column "request after reserved"
abbrev pub asked : Command → List Field
asked Clkc = CmdTimeout ∷ []
asked Klod = CmdTimeout ∷ TagLow ∷ TagHigh ∷ Mek ∷ []
asked Kunl = CmdTimeout ∷ TagLow ∷ TagHigh ∷ []
asked Fers = Partition ∷ []
asked Fsta = []
asked Ehdl = []
asked Rhpk = HpkeHandle ∷ []
asked Unknown = []

-- request P6, EHDL: "count, then handle and algorithm for each", of at most three
abbrev pub listed : (count : ℕ) → List Field
listed count = take (2 * count) (Handle0 ∷ HpkeAlgorithm0 ∷ Handle1 ∷ HpkeAlgorithm1 ∷ Handle2 ∷ HpkeAlgorithm2 ∷ [])

-- the numbers of a response, in the order of its fields after reserved; those past its list are not written
abbrev pub Numbers : Type 0
Numbers = List ℕ

-- the column "response after reserved", by what the response is to hold; request P8: "FERS carries it as a last field (24 bytes)"
abbrev pub answered : Command → Numbers → List Field
answered Clkc numbers = []
answered Klod numbers = Place ∷ []
answered Kunl numbers = []
answered Fers numbers = ShortPairs ∷ FirstShort ∷ NewFuses ∷ []
answered Fsta numbers = TheActiveSlot ∷ HekAvailable ∷ []
answered Ehdl numbers = HpkeHandleCount ∷ listed (get_or numbers 0 0)
answered Rhpk numbers = HpkeHandle ∷ []
answered Unknown numbers = []

-- "Every request begins chksum, reserved; every response chksum, fips_status (0), reserved (0)"
abbrev pub request_fields : Command → List Field
request_fields command = Chksum ∷ Reserved ∷ asked command

abbrev pub response_fields : Command → Numbers → List Field
response_fields command numbers = Chksum ∷ FipsStatus ∷ Reserved ∷ answered command numbers

-- ---- what follows from a field list: its length, its fields' places, how it is read, how it is written

-- the bytes of a message
abbrev pub length_of : List Field → ℕ
length_of [] = 0
length_of (field ∷ fields) = width field + length_of fields

-- where a field begins
abbrev pub place_of : Field → List Field → ℕ
place_of field [] = 0
place_of field (f ∷ fields) = cond (same field f) 0 (width f + place_of field fields)

-- a u32 field of a message
abbrev pub number_at : List Field → Field → (message : List ℕ) → ℕ
number_at fields field message = u32_at message (place_of field fields)

-- the tag of a message, from its halves
abbrev pub tag_at : List Field → (message : List ℕ) → ℕ
tag_at fields message = number_at fields TagLow message + 2 ^ 32 * number_at fields TagHigh message

-- the timeout in a request, and the tag, by the list of every command that asks for one
abbrev pub TimeoutIn : (request : List ℕ) (timeout : ℕ) → Type 0
TimeoutIn request timeout =
    (command : Command) → among CmdTimeout (request_fields command) ≡ true → timeout ≡ number_at (request_fields command) CmdTimeout request

abbrev pub TagIn : (request : List ℕ) (tag : ℕ) → Type 0
TagIn request tag =
    (command : Command) → among TagLow (request_fields command) ≡ true → tag ≡ tag_at (request_fields command) request

-- the bytes of a field of a message
abbrev pub bytes_at : List Field → Field → (message : List ℕ) → List ℕ
bytes_at fields field message = take (width field) (drop (place_of field fields) message)

-- the MEK bytes of a message
abbrev pub mek_at : List Field → (message : List ℕ) → List ℕ
mek_at fields message = bytes_at fields Mek message

-- a message: its fields' bytes, one after the other
abbrev pub joined : (parts : List (List ℕ)) → List ℕ
joined [] = []
joined (part ∷ parts) = part ++ joined parts

-- u32 fields that hold these numbers
abbrev pub written : (numbers : List ℕ) → List ℕ
written numbers = joined (map bytes4 numbers)

-- three numbers of a response, two, one, none; the rest are 0
abbrev pub three_numbers : (first second third : ℕ) → Numbers
three_numbers first second third = first ∷ second ∷ third ∷ 0 ∷ 0 ∷ 0 ∷ 0 ∷ []

abbrev pub two_numbers : (first second : ℕ) → Numbers
two_numbers first second = three_numbers first second 0

abbrev pub one_number : (first : ℕ) → Numbers
one_number first = two_numbers first 0

abbrev pub no_numbers : Numbers
no_numbers = one_number 0

-- all seven, by their places
abbrev pub numbers_in : Numbers → List ℕ
numbers_in n = get_or n 0 0 ∷ get_or n 1 0 ∷ get_or n 2 0 ∷ get_or n 3 0 ∷ get_or n 4 0 ∷ get_or n 5 0 ∷ get_or n 6 0 ∷ []

-- what the fields of a response after chksum hold, in the list's order: "fips_status (0), reserved (0)", and the command's own
abbrev pub held_by : Command → Numbers → List ℕ
held_by command numbers = 0 ∷ 0 ∷ take (length (answered command numbers)) (numbers_in numbers)

-- a response: chksum, the sum of what follows it, and each field's number
abbrev pub response_of : Command → Numbers → List ℕ
response_of command numbers = summed (written (held_by command numbers))

-- "Response bytes past the response keep their values"
abbrev pub response_in : Command → Numbers → (buffer : List ℕ) → List ℕ
response_in command numbers buffer = response_of command numbers ++ drop (length_of (response_fields command numbers)) buffer

-- the least response buffer, in which every response has room; request P6: "The smallest response buffer becomes 40 bytes"
abbrev pub least_room : ℕ
least_room = 40
