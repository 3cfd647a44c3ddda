-- Document 01, "Refusal numbers" 3 to 6: what is asked of a request by itself. Assumes nothing.
use Rattle.std.specs.Prelude.{ℕ, Bool, not, List, [], ◌∷◌, eqb, length}
use Rattle.refusal.specs.declared.Refusal.TheVariants.{UnknownCode, WrongLength, WrongChksum, ReservedNotZero}
use Rattle.refusal.specs.declared.Refusal.{Refusal}
use Rattle.chksum.specs.Chksum.{request_sum}
use Rattle.codec.specs.declared.Command.{Command}
use Rattle.codec.specs.Fields.{known, Chksum, Reserved, request_fields, length_of, number_at}

-- "unknown code", "request not its exact length", "wrong chksum", "reserved not zero"
unfoldable pub request_tests : Command → (code : ℕ) (request : List ℕ) → List (Bool × Refusal)
request_tests command code request =
    (not (known command), UnknownCode)
    ∷ (not (eqb (length request) (length_of (request_fields command))), WrongLength)
    ∷ (not (eqb (number_at (request_fields command) Chksum request) (request_sum code request)), WrongChksum)
    ∷ (not (eqb (number_at (request_fields command) Reserved request) 0), ReservedNotZero)
    ∷ []
