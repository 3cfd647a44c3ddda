-- Document 01, "The map of the fuses", with request P7: what an image says, and the rules of a good one, a line each in the document's
-- order. Assumes nothing.
use Rattle.std.specs.Prelude.{ℕ, ◌+◌, ◌-◌, ◌*◌, ◌/◌, ◌%◌, Bool, cond, ◌&&◌, ◌||◌, not, List, [], ◌∷◌, length, eqb, leb, ltb}
use Rattle.endian.specs.Endian.{byte_at, u16_at}
use Rattle.laws.specs.Tests.{every}
use Rattle.laws.specs.Below.{all_below}
use Rattle.map.specs.declared.Header.{Header}
use Rattle.map.specs.declared.Entry.{Entry}

-- "Header, four u16: partition count P, cell count C, bound B, offset E of the entries"
abbrev pub header_of : (image : List ℕ) → Header
header_of s = record { partitions = u16_at s 0; cells = u16_at s 2; bound = u16_at s 4; offset = u16_at s 6 }

-- where entry i starts
abbrev pub entry_place : (image : List ℕ) (i : ℕ) → ℕ
entry_place s i = (header_of s).offset + 8 * i

-- "Entry, 8 bytes: u16 first cell, u16 cells n, u8 kind, u8 flags, two zero bytes"
abbrev pub entry_at : (image : List ℕ) (at : ℕ) → Entry
entry_at s at = record { first = u16_at s at; n = u16_at s (at + 2); kind = byte_at s (at + 4); flags = byte_at s (at + 5) }

-- entry i
abbrev pub entry_of : (image : List ℕ) (i : ℕ) → Entry
entry_of s i = entry_at s (entry_place s i)

-- the cell past the partition's last
abbrev pub end_of : Entry → ℕ
end_of x = x.first + x.n

-- kind: "0 hardware, 1 software, 2 life cycle"
abbrev pub hardware : Entry → Bool
hardware x = eqb x.kind 0

abbrev pub software : Entry → Bool
software x = eqb x.kind 1

abbrev pub life_cycle : Entry → Bool
life_cycle x = eqb x.kind 2

-- flags: "1 zeroizable, 2 secret, 4 HEK slot"
abbrev pub zeroizable : Entry → Bool
zeroizable x = eqb (x.flags % 2) 1

abbrev pub secret : Entry → Bool
secret x = eqb (x.flags / 2 % 2) 1

abbrev pub slot : Entry → Bool
slot x = eqb (x.flags / 4 % 2) 1

-- request P7: "Flag 8 on a partition selects its ZEROIZE", the one of source document 000, "the older guide"
abbrev pub older_guide : Entry → Bool
older_guide x = eqb (x.flags / 8 % 2) 1

-- the rules of the header, for an image of len bytes
unfoldable pub header_good : Header → (len : ℕ) → Bool
header_good h len =
    every (
    -- P is 1 to 16
    leb 1 h.partitions
    ∷ leb h.partitions 16
    -- C is 4 to 2,048
    ∷ leb 4 h.cells
    ∷ leb h.cells 2048
    -- B is 33 to 64
    ∷ leb 33 h.bound
    ∷ leb h.bound 64
    -- E is 8 to 128
    ∷ leb 8 h.offset
    ∷ leb h.offset 128
    -- "The image is exactly E + 8P long"
    ∷ eqb len (h.offset + 8 * h.partitions)
    ∷ [])

-- "Bytes 8 up to E are zero": byte k is one of the header's eight or zero
unfoldable pub filler_good : (image : List ℕ) (k : ℕ) → Bool
filler_good s k = ltb k 8 || eqb (byte_at s k) 0

-- the rules of one entry x, where the entry before it ends at `before`, the array has `cells` cells and x's last two bytes read `spare`
unfoldable pub entry_good : (before cells : ℕ) → Entry → (spare : ℕ) → Bool
entry_good before cells x spare =
    every (
    -- kind is 0, 1 or 2
    leb x.kind 2
    -- bits of flags higher than 8 are zero
    ∷ leb x.flags 15
    -- "two zero bytes"
    ∷ eqb spare 0
    -- "First and n are even"
    ∷ eqb (x.first % 2) 0
    ∷ eqb (x.n % 2) 0
    -- "n is at least 4, at least 6 if zeroizable"
    ∷ leb 4 x.n
    ∷ (not (zeroizable x) || leb 6 x.n)
    -- "Entries ascend without overlap and end by C; gaps are allowed"
    ∷ leb before x.first
    ∷ leb (end_of x) cells
    -- "Life cycle is never zeroizable"
    ∷ not (life_cycle x && zeroizable x)
    -- "Secret needs kind 0"
    ∷ (not (secret x) || hardware x)
    -- "a slot must be zeroizable and secret"
    ∷ (not (slot x) || zeroizable x && secret x)
    -- request P7: "1 for flag 8 exactly on a partition that is not zeroizable"
    ∷ (not (older_guide x) || zeroizable x)
    ∷ [])

-- where the entry before entry i ends: 0 before the first
abbrev pub end_before : (image : List ℕ) (i : ℕ) → ℕ
end_before s i = cond (eqb i 0) 0 (end_of (entry_of s (i - 1)))

-- entry i of an image keeps its rules
unfoldable pub place_good : (image : List ℕ) (i : ℕ) → Bool
place_good s i = entry_good (end_before s i) (header_of s).cells (entry_of s i) (u16_at s (entry_place s i + 6))

-- a map that breaks no rule
unfoldable pub map_good : (image : List ℕ) → Bool
map_good s =
    header_good (header_of s) (length s)
    && all_below (filler_good s) (header_of s).offset
    && all_below (place_good s) (header_of s).partitions
