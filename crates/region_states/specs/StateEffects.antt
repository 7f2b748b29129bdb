-- A call by what it does to buffers, references and frames.
use Rattle.std.specs.Prelude.{Bool, true, false, not, List, ◌∷◌, map, Option, Some, None}
use Rattle.std.specs.Option.{option_map}
use Rattle.base.specs.Bytes.{Identifier}
use Rattle.base.specs.Options.{some_passes}
use Rattle.syntax.specs.Tree.{Argument}
use Rattle.syntax.specs.Views.{argument_tree}
use Rattle.jni.specs.declared.access.Access.{Access}
use Rattle.jni.specs.Access.{is_critical}
use Rattle.region_states.specs.declared.calls.MadeCall.{MadeCall}
use Rattle.region_states.specs.declared.calls.Release.{Release as ReleaseInMemory}
use Rattle.region_rules.specs.RegionStates.{FunctionCall, Release, argument_name, first_name, has_commit}
use Rattle.jni.specs.declared.kinds.StateEffect.{StateEffect}
use Rattle.jni.specs.declared.kinds.StateEffect.TheVariants.{Gets, Releases, Deletes, Pops}
use Rattle.jni.specs.StateEffect.{state_effect}

-- a call by what it does
abbrev pub EffectCall : Type 0
EffectCall = StateEffect × List Argument

-- the same of a call of a function
abbrev pub call_state_effect : FunctionCall → EffectCall
call_state_effect call = (state_effect call.0, call.1)

-- a call in memory
abbrev pub made_value : MadeCall → EffectCall
made_value c = (c.effect, map argument_tree c.arguments.now)

-- what a call releases, in memory
abbrev pub release_value : ReleaseInMemory → Release
release_value r = record {
  access = r.access;
  object = option_map (λ x. x.now) r.object;
  buffer = option_map (λ x. x.now) r.buffer;
  commits = r.commits;
}

-- ---- the parts of a call

-- a Get's access, and the variable of its array or string
abbrev pub got : Option EffectCall → Option (Access × Option Identifier)
got (Some (Gets access, arguments)) = Some (access, first_name arguments)
got call = None

-- what a call releases
abbrev pub released : Option EffectCall → Option Release
released (Some (Releases access, object ∷ buffer ∷ modes)) =
    Some (record { access = access; object = argument_name object; buffer = argument_name buffer; commits = has_commit modes })
released call = None

-- the variable that a call deletes
abbrev pub deleted : Option EffectCall → Option Identifier
deleted (Some (Deletes, arguments)) = first_name arguments
deleted call = None

-- whether a call pops a frame
abbrev pub popped : Option EffectCall → Bool
popped (Some (Pops, arguments)) = true
popped call = false

-- whether an effect may be had while a buffer is critical
abbrev pub may_be_critical : StateEffect → Bool
may_be_critical (Gets access) = is_critical access
may_be_critical (Releases access) = is_critical access
may_be_critical effect = false

-- whether a call may not be made while a buffer is critical
abbrev pub is_forbidden : Option EffectCall → Bool
is_forbidden call = some_passes (λ c. not (may_be_critical c.0)) call
