-- The answers for `request`.
use Rattle.std.proofs.Common.{◌≡◌, ℕ, ◌<◌, get_or, rules, lit<}
use Rattle.std.specs.Float.Ieee.{nan}
use Rattle.text.specs.Answer.{number}
use Rattle.text.proofs.Laws.{first_twelve, request_is}
use Rattle.text.proofs.request.Goals as goal

pub returns : goal.returns
returns c =
    let numbers = c.map-numbers.result in
    let all = c.map-numbers.ensures.items in
    let each : (j : ℕ) → j < 16 → get_or numbers j nan ≡ number c.args.v j = λ j h. let w = all.at j 0 nan h in search rules in
    let e = all.long in
    request_is _ _ _ _ c.requested.ensures (first_twelve c.args.v nan numbers e (λ j h. each j (rw e at h))) (each 15 (lit< tt))
