-- What the proofs use of the standard library, and of the laws of tests, passed on by file; nothing is proved here.
pub use Prim.Native.Nat.{ℕ, zero, suc, ◌+◌, ◌-◌, ◌*◌, ◌/◌, ◌%◌, ◌^◌, ◌<◌, ◌≤◌}
pub use mathlib.Core.Path.{◌≡◌, refl, sym, ap, subst, ◌∙◌}
pub use mathlib.Core.Bool.{Bool, true, false, false≢true}
pub use mathlib.Core.List.{List, [], ◌∷◌, ◌++◌, append-nil, append_assoc}
pub use native.Mathlib.Numerals.{add-one}
pub use native.Mathlib.Omega.{arith}
pub use lib.Dec.{eqb, leb, ltb}
pub use lib.ListN.{length, take, drop, get_or, set, replicate, length-append, length-set, length-replicate, length-drop, length-take}
pub use lib.Seq.{drop-drop, drop-cons, take_all}
pub use borrow.Author.Rules.{rules}
pub use borrow.Author.Tests.{lt-ltb, le-ltb, lt-leb, le-leb, eq-eqb, ne_eqb, not-true, not-false, ltb-true, ltb-false, leb-true, leb-false, eqb-true, eqb-false}
pub use Rattle.types.proofs.Picks.{pick_true, pick_false, both_true, both_left, both_right, both_then, both_last, both_1, both_2, either, known_test, cases}
