use denote.Text.{Utf8}
use denote.Param.Always.{always_mut}
use denote.Shadow.{shadow}
use Rattle.lustrehem.proofs.show.separated.Given as goal

abbrev pub invariant-loop-item : goal.invariant-loop-item
invariant-loop-item g l =
    (goal.iterator-loop-item g).can_next l.item-iterator ×
    (goal.iterator-loop-item g).is_finite l.item-iterator ×
    (always_mut g.F.FnMut l.initial.show → always_mut g.F.FnMut l.show) ×
    shadow (Utf8 l.before)
