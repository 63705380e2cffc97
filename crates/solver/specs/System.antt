-- What a call makes of a system. Assumes nothing.
--
-- Becomes m f s t    t is the system s, with what its list means changed by f
use Rattle.std.specs.Prelude.{◌≡◌, List, map}
use Rattle.solver.specs.declared.system.System.{System}

pub record Becomes {X M : Type 0} (m : X → M) (f : List M → List M) (s t : System X) : Type 0 where
  pub lender : t.work.ghost_name ≡ s.work.ghost_name
  pub unknowns : t.unknowns ≡ s.unknowns
  pub list : map m t.work.now ≡ f (map m s.work.now)
