use Rattle.type_rules.specs.TypeRules.{IsWellTyped}
use Rattle.region_rules.specs.Regions.{HasRegions}
use Rattle.machine.proofs.SafeLoads.{all_load}
use Rattle.std.proofs.Common.{◌≡◌, ℕ, zero, suc, List, [], Option, Some, length, replicate, refl, sym, ap, ◌∙◌, subst, arith}
use Rattle.syntax.specs.Views.{unit_tree}
use Rattle.semantics.specs.Start.{start, waiting_thread}
use Rattle.semantics.specs.World.{loaded_objects}
use Rattle.semantics.specs.State.{views}
use Rattle.world_values.proofs.LoadedWorlds.{few_loaded}
use Rattle.std.proofs.lemmas.List.{length-map}
use Rattle.semantics_typing.proofs.TextsOfTrees.{tree_has_texts}
use Rattle.semantics_typing.specs.Texts.{HasTexts}
use Rattle.semantics_typing.proofs.Runs.{calls_there}
use Rattle.machine_threads.proofs.ThreadLoads.{agree_length}
use Rattle.syntax.specs.Parts.{statics_of}
use Rattle.syntax.specs.declared.unit.Item.{Item}
use Rattle.machine_scenes.specs.StoreAgrees.{AreWeaklyThere, StaticsAgree}
use Rattle.machine_scenes.specs.HeapAgrees.{SlotsAgree, times}
use Rattle.tables.specs.Elements.{lengths}
use Rattle.machine.proofs.TakenBuffers.{none_taken}
use Rattle.semantics_safety.specs.Owners.{AllOwners, owners_after}
use Rattle.heap.specs.Heap.{Space}
use Rattle.tables.specs.Keys.{value_at}
use Rattle.machine_scenes.specs.Statics.{HaveKeys, HaveWeakKeys, all_held}
use Rattle.machine_scenes.specs.MonitorsAgree.{AreThere, MonitorsAgree}
use Rattle.monitors.specs.declared.monitors.Monitor.{Monitor}
use Rattle.machine_scenes.specs.Statics.{StaticReference}
use Rattle.semantics.specs.declared.static_reference.StaticReference.TheVariants.{Empty}
use Rattle.machine_calls.proofs.HeldStatics.{names_begin, no_keys, no_weak_keys, statics_begin}
use Rattle.machine.proofs.Slices.{IsSlicedEvenly}
use Rattle.machine.proofs.machine.load_parts.Goals as goal

-- there are no weak references
none_weakly_there : (space : Space) → AreWeaklyThere space []
none_weakly_there space key a at = absurd (none key a at)
  where
    none : (key a : ℕ) → value_at [] key ≡ Some (Some a) → ⊥
    none zero a at = cc
    none (suc key) a at = cc

pub returns-clause-begins : goal.returns-clause-begins
returns-clause-begins c =
    let w = c.args.world.now in
    let s = start (unit_tree c.args.program.now.unit) w in
    let made = c.in_ok-store.ensures.made in
    let owners : AllOwners = owners_after (unit_tree c.args.program.now.unit) w [] in
    let agree = c.in_ok-threads.ensures.agree c.in_ok-store.store.heap c.in_ok-store.store.elements 1 s.shared in
    let none = none_taken w.threads in
    let count : length c.in_ok-threads.threads.items ≡ length c.args.world.now.threads = agree_length _ _ _ _ _ owners _ _ _ _ agree ∙ length-map c.args.world.now.threads waiting_thread in
    record {
      lowered = c.items.ensures.lowered;
      safe = c.accepted_is_safe.ensures (unit_tree c.args.program.now.unit) w
          (subst (λ (l : List Item). IsWellTyped (unit_tree l)) c.items.ensures.items c.items.ensures.well_typed) (subst (λ (l : List Item). HasRegions (unit_tree l)) c.items.ensures.items c.items.ensures.regions)
          (c.in_ok-threads.ensures.methods, all_load (unit_tree c.args.program.now.unit) w.classes w.threads c.in_ok-threads.ensures.all) (calls_there w.threads c.threads.ensures.sound.calls);
      typed = c.objects_are_typed.ensures (unit_tree c.args.program.now.unit) w
          (subst (λ (l : List Item). IsWellTyped (unit_tree l)) c.items.ensures.items c.items.ensures.well_typed) (subst (λ (l : List Item). HasRegions (unit_tree l)) c.items.ensures.items c.items.ensures.regions)
          (subst (λ (l : List Item). HasTexts (unit_tree l)) c.items.ensures.items (tree_has_texts (unit_tree c.items.result.now) c.items.ensures.tree))
          (c.in_ok-threads.ensures.methods, all_load (unit_tree c.args.program.now.unit) w.classes w.threads c.in_ok-threads.ensures.all) c.threads.ensures.sound;
      methods = c.threads.ensures.sound.methods;
      state = s;
      replays = refl;
      store_agrees = record {
        heap = made.agree;
        laid_out = made.laid_out;
        cells = c.in_ok-store.ensures.cells;
        table = made.table;
        begun = omega arith;
        births = c.in_ok-store.ensures.births;
        statics = subst (λ (globals : List (Option ℕ)). StaticsAgree c.in_ok-store.store.heap (all_held globals c.in_ok-store.store.weaks c.in_ok-store.store.statics.items) s.shared.statics) (sym c.in_ok-store.ensures.globals)
            (subst (λ (weaks : List (Option (Option ℕ))). StaticsAgree c.in_ok-store.store.heap (all_held [] weaks c.in_ok-store.store.statics.items) s.shared.statics) (sym c.in_ok-store.ensures.weaks)
            (subst (λ (l : List StaticReference). StaticsAgree c.in_ok-store.store.heap (all_held [] [] l) s.shared.statics) (sym (c.in_ok-store.ensures.statics ∙ ap (λ (items : List Item). replicate (length (statics_of (unit_tree items))) Empty) c.items.ensures.items)) (statics_begin c.in_ok-store.store.heap (statics_of (unit_tree c.args.program.now.unit)))));
        named = names_begin (statics_of (unit_tree c.args.program.now.unit));
        keys = subst (HaveKeys c.in_ok-store.store.globals) (sym c.in_ok-store.ensures.statics) (no_keys c.in_ok-store.store.globals (length (statics_of (unit_tree c.items.result.now))));
        weak_keys = subst (HaveWeakKeys c.in_ok-store.store.weaks) (sym c.in_ok-store.ensures.statics) (no_weak_keys c.in_ok-store.store.weaks (length (statics_of (unit_tree c.items.result.now))));
        weaks = subst (AreWeaklyThere c.in_ok-store.store.heap) (sym c.in_ok-store.ensures.weaks) (none_weakly_there c.in_ok-store.store.heap);
        globals = subst (λ (globals : List (Option ℕ)). SlotsAgree c.in_ok-store.store.heap globals []) (sym c.in_ok-store.ensures.globals) (record { names = []; agree = tt; same = λ n. refl });
        buffers = record {
          copied = ap lengths c.in_ok-store.ensures.elements ∙ sym none.0;
          many = c.in_ok-store.ensures.views ∙ sym (ap length none.1);
          pins = λ a n named. made.unpinned a ∙ sym (ap (times n) none.1);
          made = λ n past. ap (times n) none.1;
          there = λ n some. let nothing : times n (views s) ≡ 0 = ap (times n) none.1 in absurd (omega (arith, some, nothing));
        };
        monitors = subst (λ (ms : List Monitor). MonitorsAgree ms []) (sym c.in_ok-store.ensures.monitors) (record { at = λ n. tt; different = tt });
        monitored = subst (AreThere c.in_ok-store.store.heap) (sym c.in_ok-store.ensures.monitors) tt;
      };
      threads_agree = agree;
      same_printed = refl;
      same_stop = refl;
      born = let births : c.in_ok-store.store.births ≡ length (loaded_objects w) = c.in_ok-store.ensures.births in omega (arith, births, few_loaded w c.threads.ensures.sound);
      fits = tt;
      fair = tt;
      count = count;
      few = omega (arith, count, c.threads.ensures.sound.few_threads);
      sliced = subst IsSlicedEvenly (sym made.unmarked) tt;
    }
