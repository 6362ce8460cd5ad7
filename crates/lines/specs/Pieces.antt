-- Document 01, "Operation lines": a session whose input comes in pieces. A piece is what was left of the last one and the bytes that came in.
-- A line of over 160 characters is malformed; what of it no piece can hold is passed over, and it has one answer.
use Rattle.std.specs.Prelude.{ℕ, zero, suc, ◌+◌, Bool, true, false, List, [], ◌∷◌, ◌++◌, ltb, leb, eqb, length, take, drop}
use Rattle.types.specs.Names.{pick}
use Rattle.lines.specs.{Line.lf, Line.longest, Session.Held, Session.malformed, Session.turn_of, Session.text_of}

-- the bytes before the first LF
unfoldable pub lf_at : List ℕ → ℕ
lf_at [] = 0
lf_at (b ∷ l) = pick (eqb b lf) 0 (suc (lf_at l))

-- what a run over a piece gives: bytes out, bytes used, what is held, and whether it ended inside a line that is too long
pub record Run : Type 0 where
  pub out : List ℕ
  pub used : ℕ
  pub held : Held
  pub skip : Bool

-- nothing was done
abbrev pub still : Held → Run
still h = record { out = []; used = 0; held = h; skip = false }

-- so many bytes written and used before a run
abbrev pub ahead : List ℕ → ℕ → Run → Run
ahead t n x = record { out = t ++ x.out; used = n + x.used; held = x.held; skip = x.skip }

-- at most k whole lines of a piece
unfoldable pub whole_lines : ℕ → ℕ → Held → List ℕ → Run
whole_lines zero r h l = still h
whole_lines (suc k) r h l =
    pick (ltb (lf_at l) (length l))
    (ahead (text_of (turn_of r h (take (lf_at l) l))) (lf_at l + 1) (whole_lines k r (turn_of r h (take (lf_at l) l)).held (drop (lf_at l + 1) l)))
    (still h)

-- what a run leaves, if that has no LF and is over 160 bytes, is used up and passed over
unfoldable pub close_of : List ℕ → Run → Run
close_of l x =
    pick (ltb (lf_at (drop x.used l)) (length (drop x.used l))) x
    (pick (leb (length (drop x.used l)) longest) x (record { out = x.out; used = length l; held = x.held; skip = true }))

-- at most k answers of a piece
unfoldable pub piece_of : ℕ → Bool → ℕ → Held → List ℕ → Run
piece_of k false r h l = close_of l (whole_lines k r h l)
piece_of zero true r h l = record { out = []; used = 0; held = h; skip = true }
piece_of (suc k) true r h l =
    pick (ltb (lf_at l) (length l))
    (close_of l (ahead (text_of (malformed h)) (lf_at l + 1) (whole_lines k r (malformed h).held (drop (lf_at l + 1) l))))
    (record { out = []; used = length l; held = h; skip = true })

-- a host: what is held, whether a line is being passed over, what is left unused, and what was written
pub record Host : Type 0 where
  pub held : Held
  pub skip : Bool
  pub tail : List ℕ
  pub sent : List ℕ

-- room for so many answers, and bytes that come in
pub record Feed : Type 0 where
  pub room : ℕ
  pub bytes : List ℕ

-- a host after bytes came in: a piece of what was left and of these
unfoldable pub fed : ℕ → Host → Feed → Host
fed r h x =
    let y = piece_of x.room h.skip r h.held (h.tail ++ x.bytes) in
    record { held = y.held; skip = y.skip; tail = drop y.used (h.tail ++ x.bytes); sent = h.sent ++ y.out }

-- a host after all that came in
unfoldable pub fed_all : ℕ → Host → List Feed → Host
fed_all r h [] = h
fed_all r h (x ∷ xs) = fed_all r (fed r h x) xs

-- all bytes that came in
unfoldable pub whole : List Feed → List ℕ
whole [] = []
whole (x ∷ xs) = x.bytes ++ whole xs
