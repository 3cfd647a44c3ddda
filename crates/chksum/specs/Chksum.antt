-- Document 01, "Mailbox": the sums of requests and responses. Assumes nothing.
use Rattle.std.specs.Prelude.{ℕ, ◌+◌, ◌-◌, ◌%◌, ◌^◌, List, [], ◌∷◌, ◌++◌, take, drop}
use Rattle.laws.specs.Put.{put_at}
use Rattle.endian.specs.Endian.{bytes4}

-- the sum of bytes
abbrev pub sum_bytes : List ℕ → ℕ
sum_bytes [] = 0
sum_bytes (b ∷ bytes) = b + sum_bytes bytes

-- "0 minus the sum .., wrapping in 32 bits"
abbrev pub minus : (sum : ℕ) → ℕ
minus sum = (2 ^ 32 - sum % 2 ^ 32) % 2 ^ 32

-- "a request's chksum is 0 minus the sum of the four code bytes and every request byte after chksum"
abbrev pub request_sum : (code : ℕ) (request : List ℕ) → ℕ
request_sum code request = minus (sum_bytes (bytes4 code) + sum_bytes (drop 4 request))

-- "a response's is the same without the code": the chksum of the bytes after it
abbrev pub response_sum : (body : List ℕ) → ℕ
response_sum body = minus (sum_bytes body)

-- the bytes of a response whose bytes after chksum are these
abbrev pub summed : (body : List ℕ) → List ℕ
summed body = bytes4 (response_sum body) ++ body

-- the buffer with the chksum of its first n bytes in front
abbrev pub closed : (n : ℕ) (buffer : List ℕ) → List ℕ
closed n buffer = put_at 0 (bytes4 (response_sum (drop 4 (take n buffer)))) buffer
