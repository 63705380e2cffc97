use Rattle.std.proofs.Common.{map, sym, refl, ◌∙◌}
use Rattle.std.proofs.lemmas.List.{length-map}
use Rattle.solver.proofs.Law.{no_room, tried}
use Rattle.solver.proofs.solve.Goals as goal

pub returns-then-not-has_room : goal.returns-then-not-has_room
returns-then-not-has_room g c =
    no_room g.N.Arithmetic.ops c.args.unknowns (map g.N.Arithmetic.mean c.args.work.now) _ _ _ g.met.N.Arithmetic.lawful
    (length-map _ _) (sym c.has_room.ensures ∙ c.if-not-has_room.true) refl

pub returns : goal.returns
returns g c =
    tried g.N.Arithmetic.ops c.args.unknowns (map g.N.Arithmetic.mean c.args.work.now) _ _ _ _ _ g.met.N.Arithmetic.lawful
    (length-map _ _) (sym c.has_room.ensures ∙ c.if-not-has_room.false) c.attempt.ensures.answer c.attempt.ensures.left
