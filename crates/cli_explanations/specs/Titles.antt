-- The titles of faults and traps, those of docs/FAULTS.md; `gate/explanations write` makes this file of it.
use Rattle.std.specs.Prelude.{ℕ, ◌/◌, ◌==◌, if◌then◌else◌, List, [], ◌∷◌, Option, codes}
use Rattle.cli_explanations.specs.Numbered.{Titles, title_in}

-- the faults from 0 to 9
unfoldable pub faults_0 : Titles
faults_0 = (1, codes "a byte begins no token") ∷ (2, codes "a comment has no end") ∷ (3, codes "a bad number") ∷ (4, codes "a bad string") ∷ []

-- the faults from 10 to 19
unfoldable pub faults_10 : Titles
faults_10 = (11, codes "unexpected token") ∷ (12, codes "nested too deeply") ∷ (13, codes "too many functions, statics or names") ∷ []

-- the faults from 20 to 29
unfoldable pub faults_20 : Titles
faults_20 = (21, codes "undeclared name") ∷ (22, codes "a name is declared twice") ∷ (23, codes "type mismatch") ∷ (24, codes "a function of the JNI isn't known") ∷ (25, codes "a wrong number of arguments") ∷ (26, codes "a reference would be copied") ∷ (27, codes "not a release mode") ∷ (28, codes "a string's characters are written to") ∷ []

-- the faults from 30 to 39
unfoldable pub faults_30 : Titles
faults_30 = (31, codes "a call or a print while a buffer is critical") ∷ (32, codes "a return while a buffer is acquired") ∷ (33, codes "a buffer is overwritten or leaves scope unreleased") ∷ (34, codes "a buffer is used before it is tested") ∷ (35, codes "a buffer is used that isn't acquired") ∷ (36, codes "a return inside a frame") ∷ (37, codes "the first frame is popped") ∷ (38, codes "a deleted reference is used") ∷ (39, codes "the array of an acquired buffer is changed") ∷ []

-- the faults from 40 to 49
unfoldable pub faults_40 : Titles
faults_40 = (40, codes "branches leave different states") ∷ (41, codes "a reference is set in another frame") ∷ (42, codes "a path ends without return, or a statement is never reached") ∷ []

-- the faults from 50 to 59
unfoldable pub faults_50 : Titles
faults_50 = (51, codes "a function is too long") ∷ []

-- the faults from 60 to 69
unfoldable pub faults_60 : Titles
faults_60 = (61, codes "a class or a field has the name of another") ∷ (62, codes "a superclass isn't there, or has no subclasses") ∷ (63, codes "no type of a field has this signature") ∷ (64, codes "too many classes or fields") ∷ []

-- the faults from 80 to 89
unfoldable pub faults_80 : Titles
faults_80 = (81, codes "malformed line or word") ∷ (82, codes "unknown name or thread, or wrong arguments") ∷ (83, codes "out of range") ∷ (84, codes "the heap is too small") ∷ []

-- the faults from 90 to 99
unfoldable pub faults_90 : Titles
faults_90 = (91, codes "an entry of a journal isn't possible") ∷ (92, codes "the journal of a run by workers is full") ∷ []

-- the faults of a number's ten
unfoldable pub faults_near : (ten : ℕ) → Titles
faults_near ten = if ten == 0 then faults_0 else if ten == 1 then faults_10 else if ten == 2 then faults_20 else if ten == 3 then faults_30 else if ten == 4 then faults_40 else if ten == 5 then faults_50 else if ten == 6 then faults_60 else if ten == 8 then faults_80 else if ten == 9 then faults_90 else []

-- the title of a fault
abbrev pub fault_title : (number : ℕ) → Option (List ℕ)
fault_title number = title_in number (faults_near (number / 10))

-- the traps from 0 to 9
unfoldable pub traps_0 : Titles
traps_0 = (1, codes "a division or a remainder by zero") ∷ (2, codes "a shift by 32 or more") ∷ (3, codes "an element past the end") ∷ (4, codes "NULL where an object is wanted") ∷ (5, codes "a call while an exception is pending") ∷ (6, codes "an object isn't of the kind that is wanted") ∷ (7, codes "a deleted global reference") ∷ (8, codes "no room for a local reference") ∷ (9, codes "FatalError") ∷ []

-- the traps from 10 to 19
unfoldable pub traps_10 : Titles
traps_10 = (10, codes "too many calls within one another") ∷ []

-- the traps of a number's ten
unfoldable pub traps_near : (ten : ℕ) → Titles
traps_near ten = if ten == 0 then traps_0 else if ten == 1 then traps_10 else []

-- the title of a trap
abbrev pub trap_title : (number : ℕ) → Option (List ℕ)
trap_title number = title_in number (traps_near (number / 10))
