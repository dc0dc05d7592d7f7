-- The worked bytes of page heads. Assumes nothing.
use Rattle.std.proofs.Common.{refl}
use Rattle.layouts.specs.Worked.{WorkedPages}

pub worked_pages : WorkedPages
worked_pages = (refl, refl, λ rest. refl)
