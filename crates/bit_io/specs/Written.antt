-- What a writer has put into the slice that it was lent (own).
use Rattle.std.specs.Prelude.{◌≡◌, ◌<◌, ◌≤◌, ℕ, ◌-◌, ◌*◌, List, ◌++◌, length, take, drop}
use Rattle.std.specs.Borrow.{GName}
use Rattle.bit_io.specs.declared.writer.BitWriter.{BitWriter}
use Rattle.bit_io.specs.declared.writer.Full.{Full}
use Rattle.bit_io.specs.Bits.{bits, bits_of, zeros, bytes_for}

-- the bits put so far
unfoldable pub bits_put : BitWriter → List ℕ
bits_put w = bits_of (take w.at w.out.now) ++ bits w.count w.acc

-- the lent slice as it reads now: of it only the bytes behind the bits are told
abbrev pub lent : BitWriter → List ℕ
lent w = w.out.now

-- the reference to the lent slice
abbrev pub lender : BitWriter → GName
lender w = w.out.ghost_name

-- the bits that are left
abbrev pub room : BitWriter → ℕ
room w = 8 * length (lent w) - length (bits_put w)

-- these bits follow those put before, and the bytes behind them stay as they were
pub record Puts (old new : BitWriter) (more : List ℕ) : Type 0 where
  pub put : bits_put new ≡ bits_put old ++ more
  pub size : length (lent new) ≡ length (lent old)
  pub behind : drop (bytes_for (length (bits_put new))) (lent new) ≡ drop (bytes_for (length (bits_put new))) (lent old)

-- n bits don't fit
pub record Overfills (old : BitWriter) (n : ℕ) (full : Full) : Type 0 where
  pub need : full.need ≡ n
  pub room : full.room ≡ room old
  pub short : full.room < full.need

-- the used bytes spell the bits put and then fewer than 8 zeros, and the bytes behind them stay as they were
pub record Pads (writer : BitWriter) (used : ℕ) (out : List ℕ) : Type 0 where
  pub fewest : used ≡ bytes_for (length (bits_put writer))
  pub within : used ≤ length out
  pub spelled : bits_of (take used out) ≡ bits_put writer ++ zeros (8 * used - length (bits_put writer))
  pub behind : drop used out ≡ drop used (lent writer)
