-- What is read of bytes, and of longer bytes that begin with them.
use Rattle.std.specs.Prelude.{◌≡◌, ◌≢◌, ◌⊎◌, ℕ, ◌+◌, List, ◌∷◌, ◌++◌, length, Result, Ok, Err}
use Rattle.bt_text.specs.Lines.{line, line_feeds}
use Rattle.bt_net.specs.declared.fault.NetFault.{NetFault}
use Rattle.bt_net.specs.declared.fault.NetFault.TheVariants.{NetLine}
use Rattle.bt_net.specs.Readings.{Reading}

-- the same was read, of one byte more
abbrev pub with_line_feed : Reading → Reading
with_line_feed read = record read { used = read.used + 1 }

-- what was read of the bytes is read whatever follows them; or they end with `end` without its line feed, and it is
-- read where that follows
abbrev pub Stays : (List ℕ → Result Reading NetFault → Type 0) → Type 0
Stays IsRead = (bytes : List ℕ) (read : Reading) → IsRead bytes (Ok read) → ((more : List ℕ) → IsRead (bytes ++ more) (Ok read))
    ⊎ ((read.used ≡ length bytes) × ((more : List ℕ) → IsRead (bytes ++ 10 ∷ more) (Ok (with_line_feed read))))

-- the refusal of bytes that end with a line feed is that of all longer ones, but where it is that of the line that is
-- next
abbrev pub StaysRefused : (List ℕ → Result Reading NetFault → Type 0) → Type 0
StaysRefused IsRead = (lines more : List ℕ) (fault : NetFault) → fault ≢ NetLine (line_feeds (line lines) + 1) → IsRead (line lines) (Err fault)
    → IsRead (line lines ++ more) (Err fault)
