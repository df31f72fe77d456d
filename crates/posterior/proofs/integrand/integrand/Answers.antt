-- `integrand::integrand` meets its contract, by what its callees ensure.
use Rattle.posterior.specs.Integrand.{integrand_of}
use Rattle.posterior.proofs.integrand.integrand.Goals as goal

pub returns : goal.returns
unfolding integrand_of
returns c = rw (← c.conditional-c.ensures) c.weighed.ensures
