-- Document 01, "The store": the kinds of entry, by the table's numbers.
use Rattle.std.specs.Prelude.{ℕ}

abbrev pub Name : ℕ
Name = 0

abbrev pub Bot : ℕ
Bot = 1

abbrev pub Top : ℕ
Top = 2

abbrev pub Ctrl : ℕ
Ctrl = 3

abbrev pub XCtrl : ℕ
XCtrl = 4

abbrev pub Int : ℕ
Int = 5

abbrev pub Float : ℕ
Float = 6

abbrev pub Tuple : ℕ
Tuple = 7

abbrev pub Struct : ℕ
Struct = 8

-- forward reference
abbrev pub Fref : ℕ
Fref = 9

abbrev pub MemPtr : ℕ
MemPtr = 10

abbrev pub Mem : ℕ
Mem = 11

-- the last kind of the table
abbrev pub last_kind : ℕ
last_kind = 11
