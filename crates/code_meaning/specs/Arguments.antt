-- The arguments of a call, each with the kind of its parameter.
use Rattle.std.specs.Prelude.{Bool, true, false, List, [], ◌∷◌, map}
use Rattle.syntax.specs.Tree.{Argument}
use Rattle.jni.specs.declared.kinds.ParameterKind.{ParameterKind}
use Rattle.jni.specs.declared.kinds.ParameterKind.TheVariants.{Passed}
use Rattle.code_meaning.specs.declared.parameters.Parameters.{Parameters}

-- the arguments with a function's own parameters, and, where it calls a method, what is left as what that is given
abbrev pub given_for : (calls : Bool) (own : List ParameterKind) → List Argument → List (ParameterKind × Argument)
given_for calls own [] = []
given_for calls (p ∷ own) (a ∷ arguments) = (p, a) ∷ given_for calls own arguments
given_for true [] (a ∷ arguments) = (Passed, a) ∷ given_for true [] arguments
given_for false [] arguments = []

-- the same with parameters in memory
abbrev pub paired : Parameters → List Argument → List (ParameterKind × Argument)
paired parameters arguments = given_for parameters.calls parameters.own.now arguments
