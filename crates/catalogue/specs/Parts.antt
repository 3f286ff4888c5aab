-- What the functions below the calls promise.
use Rattle.std.specs.Prelude.{◌≡◌, List, ℕ, take, Option as Choice, Some, None, Result, Ok, Err, MatchOption}
use Rattle.std.proofs.Math.Option.{Option, none, some}
use Rattle.catalogue.specs.declared.Reader.{Reader}
use Rattle.catalogue.specs.declared.BadLine.{BadLine}
use Rattle.catalogue.specs.declared.Latest.{Latest}
use Rattle.catalogue.specs.declared.Shelf.{Shelf}
use Rattle.catalogue.specs.Sheets.{Sheet, rows_bytes, sheets_of}
use Rattle.catalogue.specs.Back.{no_object}
use Rattle.catalogue.specs.Scan.{Got, got, bad, S, after, run}

-- the rows of so many objects, in front of an array that has room for all
abbrev pub rows_of : ℕ → List ℕ → List ℕ
rows_of objects room = take (rows_bytes objects) room

abbrev pub front : Latest → List ℕ
front rows = rows_of rows.count.n rows.bytes

-- the frames of a segment
abbrev pub sheets_on : Shelf → List Sheet
sheets_on s = sheets_of s.store.now s.starts.now s.lengths.now s.frames.now

-- ---- what a reader has come to: the value that is made of a result, the next line and the text from there on, or the line that is bad

abbrev pub came : {A B : Type 0} → (A → B) → Result A BadLine → Reader → Got B
came f (Ok a) r = got (f a) r.line r.rest.now
came f (Err e) r = bad e.line

-- the object of the entry that comes next, or the number that no object has
abbrev pub next_of : Choice ℕ → ℕ
next_of (Some j) = j
next_of None = no_object

-- what a reader answers from where it stands
abbrev pub runs : {A : Type 0} → Reader → S A → Got A
runs r p = run p r.line r.rest.now

-- what it answers from where a result left it
abbrev pub goes : {A B : Type 0} → (A → S B) → Result A BadLine → Reader → Got B
goes k (Ok a) r = runs r (k a)
goes k (Err e) r = bad e.line

-- a number in line n, and the text behind it
abbrev pub told : ℕ → Option (ℕ × List ℕ) → Got ℕ
told n none = bad n
told n (some (v, s)) = got v n s

-- where the reader stands behind a word, if it stands here
abbrev pub Behind : List ℕ → Reader → Choice Reader → Type 0
Behind w r next = MatchOption next (after w r.rest.now ≡ none) (λ x. (after w r.rest.now ≡ some x.rest.now) × (x.line ≡ r.line))
