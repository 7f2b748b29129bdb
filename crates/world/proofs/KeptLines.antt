-- What is known of a line that keeps the rules, and of lines that keep them one after another.
use Rattle.std.proofs.Common.{◌≡◌, ℕ, ◌≤◌, Bool, true, false, cond, List, [], ◌∷◌, ◌++◌, length, map, refl, sym, ap, ◌∙◌}
use Rattle.std.specs.Prelude.{not, ◌&&◌, ◌||◌, nat_lt, nat_le, filter}
use Rattle.std.specs.List.{list_all}
use Rattle.std.proofs.lemmas.Bool.{and_parts, or_parts, not-false, leb-true, ltb-false}
use Rattle.class_rules.specs.declared.rule.ClassRule.{ClassRule}
use Rattle.class_rules.specs.declared.rule.ClassRule.TheVariants.{NameTaken, BadSuperclass, BadSignature, TooMany}
use Rattle.world_schedules.specs.LineRules.{LineRule, OfClass, LineForm, WrongName, OutOfLimit, HeapFull, line_rules}
use Rattle.world_values.specs.declared.part.Part.TheVariants as parts
use Rattle.world_values.specs.WorldLines.{WorldLine, Lines}
use Rattle.world_values.specs.WorldMeaning.{table_of, objects_defined, values_of_line, threads_of, has_methods, cells_of}
use Rattle.world_values.specs.WorldRules.{part_of, is_no_later, is_in_order, is_formed_value, is_well_formed, is_class_allowed, is_name_taken, is_known_value, types_of_line, each_holds, each_in_range, is_within_limits, breaks_class_rule, line_breaks, broken_by_line, broken_after}
use Rattle.world_lines.proofs.Tests.{filter_none}

-- a line that is in its order, and what each rule asks of it
pub record IsKept (cells : ℕ) (earlier : Lines) (line : ℕ × WorldLine) : Type 0 where
  pub ordered : is_in_order earlier line.1 ≡ true
  pub class_rules : (rule : ClassRule) → breaks_class_rule rule (table_of earlier) line.1 ≡ false
  pub well : is_well_formed (table_of earlier) line.1 ≡ true
  pub formed : list_all is_formed_value (values_of_line line.1) ≡ true
  pub new : is_name_taken earlier line.1 ≡ false
  pub allowed : is_class_allowed (has_methods earlier) (table_of earlier) line.1 ≡ true
  pub known : list_all (is_known_value earlier) (values_of_line line.1) ≡ true
  pub held : each_holds earlier (types_of_line (table_of earlier) line.1) (values_of_line line.1) ≡ true
  pub ranged : each_in_range (types_of_line (table_of earlier) line.1) (values_of_line line.1) ≡ true
  pub few_objects : length (objects_defined (earlier ++ line ∷ [])) ≤ 65536
  pub few_threads : length (threads_of (earlier ++ line ∷ [])) ≤ 8
  pub few_calls : list_all (λ calls. nat_le (length calls) 256) (threads_of (earlier ++ line ∷ [])) ≡ true
  pub room : is_no_later (part_of line.1) parts.Objects ≡ true → cells_of (earlier ++ line ∷ []) ≤ cells

module _ (cells : ℕ) (earlier : Lines) (n : ℕ) (line : WorldLine) where
  abbrev breaks : LineRule → Bool
  breaks rule = line_breaks rule cells earlier (n, line)

  none_broken : filter breaks line_rules ≡ [] → (rule : LineRule) → breaks rule ≡ false
  none_broken h rule =
      let to_g : List LineRule = OutOfLimit ∷ HeapFull ∷ [] in
      let to_e : List LineRule = LineForm ∷ WrongName ∷ to_g in
      let a = filter_none breaks (OfClass NameTaken) (OfClass BadSuperclass ∷ OfClass BadSignature ∷ OfClass TooMany ∷ to_e) h in
      let b = filter_none breaks (OfClass BadSuperclass) (OfClass BadSignature ∷ OfClass TooMany ∷ to_e) a.1 in
      let c = filter_none breaks (OfClass BadSignature) (OfClass TooMany ∷ to_e) b.1 in
      let d = filter_none breaks (OfClass TooMany) to_e c.1 in
      let e = filter_none breaks LineForm (WrongName ∷ to_g) d.1 in
      let f = filter_none breaks WrongName to_g e.1 in
      let g = filter_none breaks OutOfLimit (HeapFull ∷ []) f.1 in
      let i = filter_none breaks HeapFull [] g.1 in
      by_rule rule a.0 b.0 c.0 d.0 e.0 f.0 g.0 i.0
    where
      by_rule : (rule : LineRule) → breaks (OfClass NameTaken) ≡ false → breaks (OfClass BadSuperclass) ≡ false → breaks (OfClass BadSignature) ≡ false → breaks (OfClass TooMany) ≡ false → breaks LineForm ≡ false → breaks WrongName ≡ false
          → breaks OutOfLimit ≡ false → breaks HeapFull ≡ false → breaks rule ≡ false
      by_rule (OfClass NameTaken) a b c d e f g i = a
      by_rule (OfClass BadSuperclass) a b c d e f g i = b
      by_rule (OfClass BadSignature) a b c d e f g i = c
      by_rule (OfClass TooMany) a b c d e f g i = d
      by_rule LineForm a b c d e f g i = e
      by_rule WrongName a b c d e f g i = f
      by_rule OutOfLimit a b c d e f g i = g
      by_rule HeapFull a b c d e f g i = i

  asked : is_in_order earlier line ≡ true → ((rule : LineRule) → breaks rule ≡ false) → IsKept cells earlier (n, line)
  asked ordered keeps =
      let T = table_of earlier in
      let vs = values_of_line line in
      let next = earlier ++ (n, line) ∷ [] in
      let form = or_parts (not (is_well_formed T line)) (not (list_all is_formed_value vs)) (keeps LineForm) in
      let held = or_parts (is_name_taken earlier line || not (is_class_allowed (has_methods earlier) T line) || not (list_all (is_known_value earlier) vs)) (not (each_holds earlier (types_of_line T line) vs)) (keeps WrongName) in
      let known = or_parts (is_name_taken earlier line || not (is_class_allowed (has_methods earlier) T line)) (not (list_all (is_known_value earlier) vs)) held.0 in
      let allowed = or_parts (is_name_taken earlier line) (not (is_class_allowed (has_methods earlier) T line)) known.0 in
      let limit = or_parts (not (each_in_range (types_of_line T line) vs)) (not (is_within_limits next)) (keeps OutOfLimit) in
      let limits = and_parts (nat_le (length (objects_defined next)) 65536 && nat_le (length (threads_of next)) 8) (list_all (λ calls. nat_le (length calls) 256) (threads_of next)) (not-false (is_within_limits next) limit.1) in
      let counts = and_parts (nat_le (length (objects_defined next)) 65536) (nat_le (length (threads_of next)) 8) limits.0 in
      let full = keeps HeapFull in
      record {
        ordered = ordered;
        class_rules = λ rule. keeps (OfClass rule);
        well = not-false _ form.0;
        formed = not-false _ form.1;
        new = allowed.0;
        allowed = not-false _ allowed.1;
        known = not-false _ known.1;
        held = not-false _ held.1;
        ranged = not-false _ limit.0;
        few_objects = leb-true _ _ counts.0;
        few_threads = leb-true _ _ counts.1;
        few_calls = limits.1;
        room = λ first. ltb-false cells (cells_of next) (sym (ap (λ b. b && nat_lt cells (cells_of next)) first) ∙ full);
      }

  pub kept_line : broken_by_line cells earlier (n, line) ≡ [] → IsKept cells earlier (n, line)
  kept_line h = by_order (is_in_order earlier line) refl h
    where
      by_order : (b : Bool) → is_in_order earlier line ≡ b → cond b (filter breaks line_rules) (LineForm ∷ []) ≡ [] → IsKept cells earlier (n, line)
      by_order true e k = asked e (none_broken k)
      by_order false e k = absurd (cc)

-- ---- several lines

map_none : {X Y : Type 0} (f : X → Y) (xs : List X) (ys : List Y) → map f xs ++ ys ≡ [] → (xs ≡ []) × (ys ≡ [])
map_none f [] ys h = (refl, h)
map_none f (x ∷ xs) ys h = absurd (cc)

-- the first keeps the rules, and the others after it
pub each_keeps : (cells : ℕ) (earlier rest : Lines) (line : ℕ × WorldLine) → broken_after cells earlier (line ∷ rest) ≡ [] → (broken_by_line cells earlier line ≡ []) × (broken_after cells (earlier ++ line ∷ []) rest ≡ [])
each_keeps cells earlier rest line h = map_none (λ rule. (line.0, rule)) (broken_by_line cells earlier line) (broken_after cells (earlier ++ line ∷ []) rest) h

-- the other way
pub none_breaks : (cells : ℕ) (earlier rest : Lines) (line : ℕ × WorldLine) → broken_by_line cells earlier line ≡ [] → broken_after cells (earlier ++ line ∷ []) rest ≡ [] → broken_after cells earlier (line ∷ rest) ≡ []
none_breaks cells earlier rest line h k = ap (λ broken. map (λ rule. (line.0, rule)) broken ++ broken_after cells (earlier ++ line ∷ []) rest) h ∙ k
