use Rattle.replay_terms.proofs.reduction.leaf_value.Goals as goal

pub returns-in-IsNull : goal.returns-in-IsNull
returns-in-IsNull c = λ leaf heap. rw c.in-IsNull.is (c.null_value.ensures heap)
