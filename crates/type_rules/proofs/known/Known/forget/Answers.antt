use Rattle.std.proofs.Common.{◌≡◌, List, [], ◌∷◌, ◌++◌, drop, None, is_some, true≢false, ap, subst, sym, ◌∙◌}
use Rattle.std.specs.HashMap.{get_by}
use Rattle.std.specs.Str.{bytes_eq}
use Rattle.base.specs.Bytes.{ByName}
use Rattle.type_rules.specs.declared.known.Declared.{Declared}
use Rattle.type_rules.specs.Declarations.{known_after, IsIndexed}
use Rattle.type_rules.proofs.KnownDeclarations.{Sets, known_after-append, indexed_before, latest_found}
use Rattle.type_rules.proofs.known.Known.forget.Goals as goal

pub invariant_of-self-in-Some-get_mut : goal.invariant_of-self-in-Some-get_mut
invariant_of-self-in-Some-get_mut g c =
    let latest = c.in-Some.latest in
    let old = c.self.inside.latest in
    let new = c.get_mut.follows.lender c.in-Some-hidden.hidden in
    let name = c.as_bytes-name.ensures in
    let indexed = subst (λ ds. IsIndexed ds old) c.in-Some.ensures.items c.self.invariant in
    let there = ap is_some (latest_found c.pop.new.self.items latest old _ name indexed) in
    let written = (c.get_mut.follows.holds c.in-Some-hidden.hidden).3 there in
    indexed_before c.pop.new.self.items latest old _ name new indexed (subst (Sets old new c.as_bytes-name.result.now) (sym c.in-Some-hidden.is) written)

pub invariant_of-self-in_default-get_mut : goal.invariant_of-self-in_default-get_mut
invariant_of-self-in_default-get_mut g c =
    let old = c.self.inside.latest in
    let indexed = subst (λ ds. IsIndexed ds old) c.in-Some.ensures.items c.self.invariant in
    let there = latest_found c.pop.new.self.items c.in-Some.latest old _ c.as_bytes-name.ensures indexed in
    let gone : get_by (λ key. bytes_eq c.as_bytes-name.result.now key.now) old ≡ None = sym (rw c.in_default-get_mut.is at c.get_mut.ensures.value) in
    absurd (true≢false (sym (ap is_some there) ∙ ap is_some gone))

pub invariant_of-self-in-None : goal.invariant_of-self-in-None
invariant_of-self-in-None g c =
    let old = c.self.inside.latest in
    let new = c.remove.new.self in
    let indexed = subst (λ ds. IsIndexed ds old) c.in-Some.ensures.items c.self.invariant in
    indexed_before c.pop.new.self.items c.in-Some.latest old _ c.as_bytes-name.ensures new indexed (subst (Sets old new c.as_bytes-name.result.now) (sym c.in-None.is) c.remove.ensures.updates)

-- without its latest declaration
rest : {T : Type 0} (old new : List (Declared T)) (d : Declared T) (known : ByName T) → old ≡ new ++ d ∷ [] → known_after old [] ≡ known → known_after new [] ≡ drop 1 known
rest old new d known items is = sym (ap (drop 1) (sym is ∙ ap (λ ds. known_after ds []) items ∙ known_after-append new d []))

pub returns-in-Some-get_mut : goal.returns-in-Some-get_mut
returns-in-Some-get_mut g c = rest _ c.pop.new.self.items c.in-Some.latest _ c.in-Some.ensures.items c.self.view_is

pub returns-in_default-get_mut : goal.returns-in_default-get_mut
returns-in_default-get_mut g c = rest _ c.pop.new.self.items c.in-Some.latest _ c.in-Some.ensures.items c.self.view_is

pub returns-in-None : goal.returns-in-None
returns-in-None g c = rest _ c.pop.new.self.items c.in-Some.latest _ c.in-Some.ensures.items c.self.view_is
