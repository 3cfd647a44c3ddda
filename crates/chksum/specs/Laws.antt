-- The laws of the sums: what wrapping sums come to, and what a closed response is. Assumes nothing.
use Rattle.std.specs.Prelude.{◌≡◌, ℕ, ◌+◌, ◌%◌, ◌^◌, ◌<◌, List, [], ◌∷◌, ◌++◌, length, take, drop, slice_index}
use Rattle.std.specs.List.{fold}
use Rattle.std.proofs.Common.{sym, ap, ◌∙◌, append_assoc, arith, add-one, drop-cons, zero-add, length-append, length-take-le, take_at, drop_at}
use Rattle.laws.specs.Put.{Put, put_at}
use Rattle.endian.specs.Endian.{bytes4}
use Rattle.chksum.specs.Chksum.{sum_bytes, minus, response_sum, summed, closed}

-- bytes added one by one, each time wrapping, make their sum
pub adds_up : (start : ℕ) (bytes : List ℕ) → fold (λ sum byte. (sum + byte) % 2 ^ 32) start bytes % 2 ^ 32 ≡ (start + sum_bytes bytes) % 2 ^ 32
adds_up start [] = omega arith
adds_up start (byte ∷ bytes) = omega (arith, adds_up ((start + byte) % 2 ^ 32) bytes)

-- the sum from i on is the byte there and the sum from the next on
pub sum_step : (bytes : List ℕ) (i : ℕ) → i < length bytes → sum_bytes (drop i bytes) ≡ slice_index bytes i + sum_bytes (drop (i + 1) bytes)
sum_step bytes i h = rw (add-one, drop-cons bytes i 0)

-- the chksum, written in front
pub closes : (n : ℕ) {chksum next : ℕ} {before after : List ℕ} → chksum ≡ minus (0 + sum_bytes (drop 4 (take n before)))
    → Put 0 (bytes4 chksum) before after next → after ≡ closed n before
closes n {before = before} q w = w.bytes ∙ ap (λ (v : ℕ). put_at 0 (bytes4 v) before) (q ∙ ap minus (zero-add (sum_bytes (drop 4 (take n before)))))

-- the bytes after chksum are written, and then the chksum: a response, and past it the bytes as they were
pub closed_is : {body before middle after : List ℕ} {n : ℕ} → Put 4 body before middle n → after ≡ closed n middle → after ≡ summed body ++ drop n before
closed_is {body = body} {before = before} {middle = middle} {n = n} p q =
    let front : length (take 4 before) ≡ 4 = length-take-le 4 before (omega (arith, p.room)) in
    let is : middle ≡ take 4 before ++ (body ++ drop n before) = p.bytes ∙ rw p.is_next in
    let tail : drop 4 middle ≡ body ++ drop n before = rw is (drop_at (take 4 before) (body ++ drop n before) 4 front) in
    let long : length (take 4 before ++ body) ≡ n = omega (arith, length-append (take 4 before) body, p.is_next) in
    let whole : take n middle ≡ take 4 before ++ body = rw (is, ← append_assoc (take 4 before) body (drop n before)) (take_at (take 4 before ++ body) (drop n before) n long) in
    let summed_bytes : drop 4 (take n middle) ≡ body = rw whole (drop_at (take 4 before) body 4 front) in
    q ∙ rw (summed_bytes, tail) (sym (append_assoc (bytes4 (response_sum body)) body (drop n before)))
