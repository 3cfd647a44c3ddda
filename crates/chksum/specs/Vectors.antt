-- Document 01's sums, "The small drive", by computation. Assumes nothing.
use Rattle.std.specs.Prelude.{◌≡◌, [], ◌∷◌, ◌++◌, refl}
use Rattle.endian.specs.Endian.{bytes4}
use Rattle.chksum.specs.Chksum.{request_sum, response_sum}

-- FSTA, FERS of partition 0, CLKC with timeout 1,000: whatever stands in chksum
request_sums :
    request_sum 0x4653_5441 (bytes4 7 ++ bytes4 0) ∷ request_sum 0x4645_5253 (bytes4 7 ++ bytes4 0 ++ bytes4 0) ∷ request_sum 0x434C_4B43 (bytes4 7 ++ bytes4 0 ++ bytes4 1000) ∷ []
    ≡ 0xFFFF_FED2 ∷ 0xFFFF_FED0 ∷ 0xFFFF_FDF8 ∷ []
request_sums = refl

-- case 2's response, short 0, first 0xFFFFFFFF, and by request P8 191 new fuses; a response of zeros
response_sums :
    response_sum (bytes4 0 ++ bytes4 0 ++ bytes4 0 ++ bytes4 0xFFFF_FFFF ++ bytes4 191) ∷ response_sum (bytes4 0 ++ bytes4 0) ∷ []
    ≡ 0xFFFF_FB45 ∷ 0 ∷ []
response_sums = refl
