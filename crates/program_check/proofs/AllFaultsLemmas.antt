-- What the faults that are told of a text say of it.
use Rattle.std.proofs.Common.{◌≡◌, ℕ, List, [], ◌∷◌, ◌++◌, ◌<◌, length, append-nil, arith, Option, Some, None, Err, refl, sym, ap, subst, ◌∙◌, map, slice_get}
use Rattle.std.proofs.lemmas.List.Elements.{All-from_recursion}
use Rattle.std.specs.List.{All, AllByRecursion}
use Rattle.syntax.specs.Tree.{SourceUnit}
use Rattle.scan.specs.declared.token.Token.{Token}
use Rattle.scan.specs.declared.fault.ScanError.{ScanError}
use Rattle.scan.specs.declared.fault.ScanError.TheVariants as scanning
use Rattle.scan.specs.Spelling.{Spells}
use Rattle.scan.specs.Faults.{IsFirstFault}
use Rattle.parse_lexemes.specs.declared.fault.ParseError.{ParseError}
use Rattle.parse_lexemes.specs.declared.fault.ParseError.TheVariants as parsing
use Rattle.parse_lexemes.specs.Lexemes.{lexemes}
use Rattle.parse_lexemes.specs.Results.{Fails}
use Rattle.parse.specs.Reading.{unit_at}
use Rattle.parse.specs.Spelling.{SpellsUnit}
use Rattle.type_rules.specs.declared.rule.TypeRule.{TypeRule}
use Rattle.type_rules.specs.TypeRules.{IsWellTyped, BreaksTypeRule, first_broken}
use Rattle.types.specs.AllFaults.{typing_faults}
use Rattle.types.specs.Faults.{TypeFault, fault_of as type_of}
use Rattle.types.proofs.UnitLemmas.{none-told, first-fault, earned-faults}
use Rattle.region_rules.specs.declared.rule.RegionRule.{RegionRule}
use Rattle.region_rules.specs.Regions.{HasRegions, BreaksRegionRule}
use Rattle.regions.specs.AllFaults.{AreRegionFaults}
use Rattle.regions.specs.Findings.{RegionFault, fault_of as region_of}
use Rattle.regions.proofs.UnitLemmas.{accepted_of_none, first_of_all, broken-faults}
use Rattle.syntax.specs.Parts.{functions_of}
use Rattle.code_meaning.specs.Length.{IsTooLong}
use Rattle.places.specs.declared.place.Place.{Place}
use Rattle.program_check.specs.AllFaults.{Entry, ToldFault, entry_of, of_type_rule, of_region, AreFaults, in_none, in_tokens, in_grammar, in_types, in_regions, in_length, BreaksAt, at_token, at_lexeme, of_type_rules, of_regions, of_length, IsAlone}
use Rattle.program_check.specs.Checks.{PassesCheck, FailsCheck, by_pass, by_length}
use Rattle.program_check.specs.declared.fault.RunError.{RunError}
use Rattle.program_check.specs.declared.fault.RunError.TheVariants.{Memory}
use Rattle.program_check.specs.Errors.{of_scan, of_parse, too_long}
use Rattle.program_check.specs.Programs.{IsProgram, by_scan, by_parse, by_types, by_regions}

-- ---- no fault

none_of : {A : Type 0} (f : A → Entry) (xs : List A) → map f xs ≡ [] → xs ≡ []
none_of f [] e = refl
none_of f (x ∷ xs) e = absurd cc

pub passes_of : (text : List ℕ) (faults : List Entry) → AreFaults text faults → faults ≡ [] → PassesCheck text
passes_of text faults (in_none passes) e = passes
passes_of text faults (in_tokens fault h) e = absurd cc
passes_of text faults (in_grammar tokens fault s h) e = absurd cc
passes_of text faults (in_types unit s ill_typed) e = absurd (ill_typed (none-told unit (none_of of_type_rule (typing_faults unit) e)))
passes_of text faults (in_regions unit found s well_typed refused h) e = absurd (refused (accepted_of_none (functions_of unit) found h (none_of of_region found e)))
passes_of text faults (in_length unit is long) e = absurd cc

pub passes_in_memory : (text : List ℕ) (faults : List ToldFault) → AreFaults text (map entry_of faults) → faults ≡ [] → PassesCheck text
passes_in_memory text faults h e = passes_of text (map entry_of faults) h (ap (map entry_of) e)

-- ---- the first

FailsAt : List ℕ → Entry → Type 0
FailsAt text e = FailsCheck text e.0 e.1

some_is : {A : Type 0} (x y : A) → ◌≡◌ {A = Option A} (Some x) (Some y) → x ≡ y
some_is x y e = cc

type_first : (text : List ℕ) (unit : SourceUnit) (found : List (ℕ × TypeRule)) (e : Entry) → SpellsUnit text unit → slice_get found 0 ≡ first_broken unit → slice_get (map of_type_rule found) 0 ≡ Some e → FailsAt text e
unfolding FailsAt
type_first text unit [] e s first h = absurd cc
type_first text unit (f ∷ found) e s first h = subst (λ (x : Entry). FailsCheck text x.0 x.1) (some_is (of_type_rule f) e h) (by_pass _ _ (by_types unit f.1 f.0 s (sym first)))

region_first : (text : List ℕ) (unit : SourceUnit) (found : List (ℕ × RegionRule)) (e : Entry) → SpellsUnit text unit → IsWellTyped unit → AreRegionFaults unit found → slice_get (map of_region found) 0 ≡ Some e → FailsAt text e
unfolding FailsAt
region_first text unit [] e s well_typed all h = absurd cc
region_first text unit (f ∷ found) e s well_typed all h =
    subst (λ (x : Entry). FailsCheck text x.0 x.1) (some_is (of_region f) e h) (by_pass _ _ (by_regions unit f.1 f.0 s well_typed (first_of_all (functions_of unit) (f ∷ found) f all refl)))

first_of : (text : List ℕ) (faults : List Entry) (e : Entry) → AreFaults text faults → slice_get faults 0 ≡ Some e → FailsAt text e
unfolding FailsAt
first_of text faults e (in_none passes) h = absurd cc
first_of text faults e (in_tokens fault is) h = subst (λ (x : Entry). FailsCheck text x.0 x.1) (some_is _ e h) (by_pass _ _ (by_scan fault is))
first_of text faults e (in_grammar tokens fault s is) h = subst (λ (x : Entry). FailsCheck text x.0 x.1) (some_is _ e h) (by_pass _ _ (by_parse tokens fault s is))
first_of text faults e (in_types unit s ill_typed) h = type_first text unit (typing_faults unit) e s (first-fault unit) h
first_of text faults e (in_regions unit found s well_typed refused all) h = region_first text unit found e s well_typed all h
first_of text faults e (in_length unit is long) h = subst (λ (x : Entry). FailsCheck text x.0 x.1) (some_is _ e h) (by_length unit is long)

get_in_memory : (faults : List ToldFault) (f : ToldFault) → slice_get faults 0 ≡ Some f → slice_get (map entry_of faults) 0 ≡ Some (entry_of f)
get_in_memory [] f e = absurd cc
get_in_memory (g ∷ faults) f e = ap (λ (x : ToldFault). Some (entry_of x)) (some_is g f e)

pub first_in_memory : (text : List ℕ) (faults : List ToldFault) → AreFaults text (map entry_of faults) → (f : ToldFault) → slice_get faults 0 ≡ Some f → FailsCheck text f.number f.place
unfolding FailsAt
first_in_memory text faults h f e = first_of text (map entry_of faults) (entry_of f) h (get_in_memory faults f e)

-- ---- each

abbrev pub Breaks : List ℕ → Entry → Type 0
Breaks text e = BreaksAt text e.0 e.1

types_broken : (text : List ℕ) (unit : SourceUnit) (found : List (ℕ × TypeRule)) → SpellsUnit text unit → AllByRecursion (λ (f : ℕ × TypeRule). BreaksTypeRule f.1 f.0 unit) found → AllByRecursion (Breaks text) (map of_type_rule found)
types_broken text unit [] s h = tt
types_broken text unit (f ∷ found) s h = (of_type_rules unit f.1 f.0 s h.0, types_broken text unit found s h.1)

regions_broken : (text : List ℕ) (unit : SourceUnit) (found : List (ℕ × RegionRule)) → SpellsUnit text unit → IsWellTyped unit → AllByRecursion (λ (f : ℕ × RegionRule). BreaksRegionRule f.1 f.0 unit) found → AllByRecursion (Breaks text) (map of_region found)
regions_broken text unit [] s well_typed h = tt
regions_broken text unit (f ∷ found) s well_typed h = (of_regions unit f.1 f.0 s well_typed h.0, regions_broken text unit found s well_typed h.1)

each_of : (text : List ℕ) (faults : List Entry) → AreFaults text faults → AllByRecursion (Breaks text) faults
each_of text faults (in_none passes) = tt
each_of text faults (in_tokens fault is) = (at_token fault is, tt)
each_of text faults (in_grammar tokens fault s is) = (at_lexeme tokens fault s is, tt)
each_of text faults (in_types unit s ill_typed) = types_broken text unit (typing_faults unit) s (earned-faults unit)
each_of text faults (in_regions unit found s well_typed refused all) = regions_broken text unit found s well_typed (broken-faults unit.items found all)
each_of text faults (in_length unit is long) = (of_length unit is long, tt)

in_memory : (text : List ℕ) (faults : List ToldFault) → AllByRecursion (Breaks text) (map entry_of faults) → AllByRecursion (λ f. BreaksAt text f.number f.place) faults
in_memory text [] h = tt
in_memory text (f ∷ faults) h = (h.0, in_memory text faults h.1)

pub each_in_memory : (text : List ℕ) (faults : List ToldFault) → AreFaults text (map entry_of faults) → All (λ f. BreaksAt text f.number f.place) faults
each_in_memory text faults h = All-from_recursion _ faults (in_memory text faults (each_of text (map entry_of faults) h))

-- ---- the fault of a pass

pub scan_alone : (text : List ℕ) (error : ScanError) (faults : List Entry) → IsFirstFault text error → IsAlone (of_scan error) faults → AreFaults text faults
scan_alone text scanning.Memory faults h is = absurd is
scan_alone text (scanning.Fault fault) faults h is = subst (AreFaults text) (sym is) (in_tokens fault h)

pub parse_alone : (text : List ℕ) (tokens : List Token) (error : ParseError) (faults : List Entry) → Spells text tokens → Fails error (unit_at (lexemes text 1 tokens)) → IsAlone (of_parse error) faults → AreFaults text faults
parse_alone text tokens parsing.Memory faults s h is = absurd is
parse_alone text tokens (parsing.Fault fault) faults s h is = subst (AreFaults text) (sym is) (in_grammar tokens fault s h)

pub length_alone : (text : List ℕ) (unit : SourceUnit) (faults : List Entry) → IsProgram text unit → IsTooLong unit → IsAlone too_long faults → AreFaults text faults
length_alone text unit faults is long e = subst (AreFaults text) (sym e) (in_length unit is long)

-- ---- faults of a pass, as those of its text

module _ {A B : Type 0} (g : A → B) (f : B → Entry) where
  -- one more is told
  pub one_told : (done : List ToldFault) (told : ToldFault) (left rest : List A) (x : A) → left ≡ x ∷ rest → entry_of told ≡ f (g x) → map entry_of (done ++ told ∷ []) ++ map f (map g rest) ≡ map entry_of done ++ map f (map g left)
  one_told [] told left rest x e is = ap (λ y. y ∷ map f (map g rest)) is ∙ sym (ap (λ (xs : List A). map f (map g xs)) e)
  one_told (d ∷ done) told left rest x e is = ap (λ ys. entry_of d ∷ ys) (one_told done told left rest x e is)

  -- none is left
  pub all_told : (done : List ToldFault) (left : List A) (whole : List Entry) → length left ≡ 0 → map entry_of done ++ map f (map g left) ≡ whole → map entry_of done ≡ whole
  all_told done [] whole e h = sym (append-nil (map entry_of done)) ∙ h
  all_told done (x ∷ left) whole e h = absurd (omega (arith, e))

-- ---- the faults of a unit that a text spells

some_items : {A : Type 0} (xs : List A) → 0 < length xs → xs ≡ [] → ⊥
some_items xs some e = let none : length xs ≡ 0 = ap length e in absurd (omega (arith, none, some))

pub types_told : (text : List ℕ) (unit : SourceUnit) (found : List TypeFault) (entries : List Entry) → SpellsUnit text unit → map type_of found ≡ typing_faults unit → (IsWellTyped unit → found ≡ []) → 0 < length found → entries ≡ map of_type_rule (map type_of found)
    → AreFaults text entries
types_told text unit found entries s all none some e = subst (AreFaults text) (sym (e ∙ ap (map of_type_rule) all)) (in_types unit s (λ well_typed. some_items found some (none well_typed)))

pub regions_told : (text : List ℕ) (unit : SourceUnit) (found : List RegionFault) (entries : List Entry) → SpellsUnit text unit → IsWellTyped unit → AreRegionFaults unit (map region_of found) → (HasRegions unit → found ≡ []) → 0 < length found
    → entries ≡ map of_region (map region_of found) → AreFaults text entries
regions_told text unit found entries s well_typed all none some e = subst (AreFaults text) (sym e) (in_regions unit (map region_of found) s well_typed (λ regions. some_items found some (none regions)) all)

pub none_told : (text : List ℕ) (unit : SourceUnit) (entries : List Entry) → IsProgram text unit → (IsTooLong unit → ⊥) → entries ≡ [] → AreFaults text entries
none_told text unit entries is short e = subst (AreFaults text) (sym e) (in_none (record { unit = unit; of_program = is; short = short }))

-- want of memory gives no faults
pub none_of_memory : (error : RunError) (faults : List ToldFault) → error ≡ Memory → IsAlone error (map entry_of faults) → faults ≡ []
none_of_memory error faults is h = let none : ⊥ = subst (λ e. IsAlone e (map entry_of faults)) is h in absurd none
