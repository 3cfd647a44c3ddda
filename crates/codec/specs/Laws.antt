-- The laws of messages: a command's own code, a request's refusal by the place of the first test that applies, and demand 2's "by the same
-- field lists": what is written by a list reads back by it. Assumes nothing.
-- The theorems stand in proofs/Laws.antt.
use Rattle.std.specs.Prelude.{ℕ, suc, Bool, true, false, cond, ◌&&◌, List, [], ◌∷◌, map, eqb, length}
use Rattle.endian.specs.Endian.{bytes4}
use Rattle.codec.specs.declared.Command.{Command}
use Rattle.codec.specs.Fields.{Field, Mek, same, width, request_fields}
use Rattle.codec.specs.Fields.{joined}

-- ---- "Requests are read and responses written by the same field lists": what was written by a list reads back by it

-- a field's place in the list
abbrev pub index_of : Field → List Field → ℕ
index_of field [] = 0
index_of field (f ∷ fields) = cond (same field f) 0 (suc (index_of field fields))

-- each field has the bytes that its width says
abbrev pub sized : List Field → (parts : List (List ℕ)) → Bool
sized [] parts = true
sized (field ∷ fields) [] = false
sized (field ∷ fields) (part ∷ parts) = eqb (length part) (width field) && sized fields parts

-- ---- a request

-- its fields: numbers, and the MEK bytes
abbrev pub request_bytes : (value : Field → ℕ) (mek : List ℕ) → Field → List ℕ
request_bytes value mek field = cond (same Mek field) mek (bytes4 (value field))

abbrev pub request_of : (value : Field → ℕ) (mek : List ℕ) → Command → List ℕ
request_of value mek command = joined (map (request_bytes value mek) (request_fields command))
