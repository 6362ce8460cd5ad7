-- Document 01, "The machine": element segments; WebAssembly Core Specification 3.0, Execution, Instructions, elem.drop.
use Rattle.std.specs.Prelude.{ℕ, ◌+◌, Bool, List, leb, length, get_or, Ok, Err, Result}
use Rattle.types.specs.Names.{pick, both, Done, done, over, refusal, refuse, accept, Answer, RefType}
use Rattle.table.specs.{Table.sound_buffer, declared.element.ElementSegment.ElementSegment}
use Rattle.types.specs.declared.answer.Refusal.{Refusal}

-- a sound segment: its places lie inside the items, and its size within its places
unfoldable pub sound_segment : ElementSegment → ℕ → Bool
sound_segment s len = both (sound_buffer s.start s.places len) (leb s.size s.places)

-- elem.drop: the segment becomes empty; kind and places stay
abbrev pub dropped : ElementSegment → ElementSegment
dropped s = record { ty = s.ty; start = s.start; places = s.places; size = 0 }

-- an item: 9 where the index is not below the size
unfoldable pub item_of : ElementSegment → List ℕ → ℕ → Answer
item_of s items i =
    pick (sound_segment s (length items))
    (pick (leb s.size i) (refuse 9 0) (accept (get_or items (s.start + i) 0)))
    (refuse 19 0)

-- the items go to their places, or 19 where these are not inside the buffer
unfoldable pub new_segment : RefType → ℕ → List ℕ → List ℕ → Done (Result ElementSegment Refusal)
new_segment k start items given =
    pick (sound_buffer start (length given) (length items))
    (done (Ok (record { ty = k; start = start; places = length given; size = length given })) (over items start given))
    (done (Err (refusal 19 0)) items)
