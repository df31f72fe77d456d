-- What a fit's request must satisfy (docs/RULES.md), check by check: all of them together are what is tested, so one that fails is enough for a refusal.
use Rattle.std.specs.Prelude.{◌≡◌, Bool, true, false, ◌&&◌, List, [], ◌∷◌, ◌++◌, ℕ, leb, get_or, Float}
use Rattle.std.proofs.Common.{◌∙◌}
use Rattle.std.specs.Float.{nan}
use Rattle.std.specs.Float.Ieee.{neg, lt, le}
use Rattle.num.specs.F64.{◌⊗◌, zero·, three·, eight·}
use Rattle.num.specs.Helpers.{is_finite_of}
use Rattle.litters.specs.Valid.{valid_litters_of}
use Rattle.litters.specs.Groups.{of_group_of}
use Rattle.litters.specs.All.{all, and_assoc, and-true, and_false, both_all, one_fails}
use Rattle.litters.specs.Checks.{litter_checks, litters_all}
use Rattle.request.specs.declared.Bounds.{Bounds}
use Rattle.request.specs.declared.Request.{Request}
use Rattle.request.specs.Request.{valid_mean_of, valid_sd_of, valid_means_of, valid_sds_of, valid_boxes_of, valid_controls_of, valid_limit, two_each_of, admitted_of}

-- finite bounds and start, bounds that increase, the start inside
abbrev box_checks : Float → Float → Float → List Bool
box_checks low high start = is_finite_of low ∷ is_finite_of high ∷ is_finite_of start ∷ lt low high ∷ le low start ∷ le start high ∷ []

abbrev pub mean_checks : Float → Float → Float → List Bool
mean_checks low high start = box_checks low high start ++ (le (neg eight·) low ∷ le high eight· ∷ [])

abbrev pub sd_checks : Float → Float → Float → List Bool
sd_checks low high start = box_checks low high start ++ (le zero· low ∷ le high three· ∷ lt (low ⊗ low) (high ⊗ high) ∷ [])

abbrev of_both : (Float → Float → Float → List Bool) → Bounds → List Bool
of_both checks b = checks (get_or b.low 0 nan) (get_or b.high 0 nan) (get_or b.start 0 nan) ++ checks (get_or b.low 1 nan) (get_or b.high 1 nan) (get_or b.start 1 nan)

abbrev control_checks : Request → List Bool
control_checks r = leb 1 r.evaluations.0 ∷ leb r.evaluations.0 1000 ∷ leb 1 r.iterations.0 ∷ leb r.iterations.0 1000 ∷ is_finite_of r.tolerance ∷ lt zero· r.tolerance ∷ []

-- at least two litters of each group
abbrev group_checks : List ℕ → List Bool
group_checks ls = leb 2 (of_group_of ls 0) ∷ leb 2 (of_group_of ls 1) ∷ []

abbrev limit_checks : Request → List Bool
limit_checks r = leb 1 r.quadrature.0 ∷ leb r.quadrature.0 20000000 ∷ []

abbrev pub request_checks : Request → List ℕ → List Bool
request_checks r ls = limit_checks r ++ (of_both mean_checks r.mean ++ (of_both sd_checks r.sd ++ (control_checks r ++ (litter_checks ls ++ group_checks ls))))

-- ---- they are what is tested

pub mean_all : (low high start : Float) → valid_mean_of low high start ≡ all (mean_checks low high start)
unfolding valid_mean_of
mean_all low high start = simp (and_assoc, and-true)

pub sd_all : (low high start : Float) → valid_sd_of low high start ≡ all (sd_checks low high start)
unfolding valid_sd_of
sd_all low high start = simp (and_assoc, and-true)

means_all : (b : Bounds) → valid_means_of b ≡ all (of_both mean_checks b)
unfolding valid_means_of
means_all b = both_all _ _ (mean_checks (get_or b.low 0 nan) (get_or b.high 0 nan) (get_or b.start 0 nan)) (mean_checks (get_or b.low 1 nan) (get_or b.high 1 nan) (get_or b.start 1 nan)) (mean_all _ _ _) (mean_all _ _ _)

sds_all : (b : Bounds) → valid_sds_of b ≡ all (of_both sd_checks b)
unfolding valid_sds_of
sds_all b = both_all _ _ (sd_checks (get_or b.low 0 nan) (get_or b.high 0 nan) (get_or b.start 0 nan)) (sd_checks (get_or b.low 1 nan) (get_or b.high 1 nan) (get_or b.start 1 nan)) (sd_all _ _ _) (sd_all _ _ _)

controls_all : (r : Request) → valid_controls_of r ≡ all (control_checks r)
unfolding valid_controls_of
controls_all r = simp (and_assoc, and-true)

groups_all : (ls : List ℕ) → two_each_of ls ≡ all (group_checks ls)
unfolding two_each_of
groups_all ls = simp and-true

limit_all : (r : Request) → valid_limit r.quadrature.0 ≡ all (limit_checks r)
limit_all r = simp and-true

pub request_all : (r : Request) (ls : List ℕ) → (valid_limit r.quadrature.0 && admitted_of r ls) ≡ all (request_checks r ls)
unfolding admitted_of
request_all r ls =
    let after-controls = litter_checks ls ++ group_checks ls in
    let after-sds = control_checks r ++ after-controls in
    let after-means = of_both sd_checks r.sd ++ after-sds in
    let groups = both_all (valid_litters_of ls) (two_each_of ls) (litter_checks ls) (group_checks ls) (litters_all ls) (groups_all ls) in
    let controls = both_all (valid_controls_of r) _ (control_checks r) after-controls (controls_all r) groups in
    let sds = both_all (valid_sds_of r.sd) _ (of_both sd_checks r.sd) after-sds (sds_all r.sd) controls in
    let means = both_all (valid_means_of r.mean) _ (of_both mean_checks r.mean) after-means (means_all r.mean) sds in
    both_all (valid_limit r.quadrature.0) _ (limit_checks r) (of_both mean_checks r.mean ++ after-means) (limit_all r) (and_assoc (valid_means_of r.mean) (valid_sds_of r.sd) _ ∙ means)

-- Where any check of a request fails, its limit or the rest of it is not admitted: the fit tests both.
pub any_fails : (r : Request) (ls : List ℕ) (i : ℕ) → get_or (request_checks r ls) i true ≡ false → (valid_limit r.quadrature.0 && admitted_of r ls) ≡ false
any_fails r ls i h = request_all r ls ∙ one_fails (request_checks r ls) i h

-- litters that are not valid, whatever else the request holds
pub not_admitted : (r : Request) (ls : List ℕ) → valid_litters_of ls ≡ false → admitted_of r ls ≡ false
unfolding admitted_of
not_admitted r ls h = rw (h, and_false (valid_controls_of r), and_false (valid_boxes_of r))
