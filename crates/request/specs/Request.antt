-- A fit's request, and what it has to satisfy. All of it is InvalidInput, so the order of the tests cannot be seen.
use Rattle.std.specs.Prelude.{Bool, ◌&&◌, List, [], ◌∷◌, ℕ, leb, get_or, Float}
use Rattle.std.specs.Float.{nan}
use Rattle.std.specs.Float.Ieee.{neg, lt, le}
use Rattle.num.specs.F64.{◌⊗◌, zero·, three·, eight·}
use Rattle.num.specs.Helpers.{is_finite_of, powi_of}
use Rattle.litters.specs.Valid.{valid_litters_of}
use Rattle.litters.specs.Groups.{of_group_of}
use Rattle.request.specs.declared.Bounds.{Bounds}
use Rattle.request.specs.declared.Range.{Range}
use Rattle.request.specs.declared.Request.{Request}

-- A request of its numbers: twelve bounds, low, high and start of both means, then of both SDs; the tolerance; the limits.
abbrev pub request_of : List Float → Float → ℕ → ℕ → ℕ → Request
request_of b tolerance evaluations iterations quadrature =
    record {
      mean = record { low = get_or b 0 nan ∷ get_or b 3 nan ∷ []; high = get_or b 1 nan ∷ get_or b 4 nan ∷ []; start = get_or b 2 nan ∷ get_or b 5 nan ∷ [] };
      sd = record { low = get_or b 6 nan ∷ get_or b 9 nan ∷ []; high = get_or b 7 nan ∷ get_or b 10 nan ∷ []; start = get_or b 8 nan ∷ get_or b 11 nan ∷ [] };
      evaluations = record { 0 = evaluations };
      iterations = record { 0 = iterations };
      quadrature = record { 0 = quadrature };
      tolerance = tolerance;
    }

abbrev pub finite_three_of : Float → Float → Float → Bool
finite_three_of a b c = is_finite_of a && (is_finite_of b && is_finite_of c)

-- bounds that increase, with the start inside, ends included
abbrev pub is_boxed_of : Float → Float → Float → Bool
is_boxed_of low high start = lt low high && (le low start && le start high)

unfoldable pub valid_mean_of : Float → Float → Float → Bool
valid_mean_of low high start = finite_three_of low high start && (is_boxed_of low high start && (le (neg eight·) low && le high eight·))

-- the squared bounds have to increase too
unfoldable pub valid_sd_of : Float → Float → Float → Bool
valid_sd_of low high start = finite_three_of low high start && (is_boxed_of low high start && (le zero· low && (le high three· && lt (low ⊗ low) (high ⊗ high))))

-- one group's, as code has it
abbrev pub range_of : Bounds → ℕ → Range
range_of b i = record { low = get_or b.low i nan; high = get_or b.high i nan; start = get_or b.start i nan }

-- of both groups
unfoldable pub valid_means_of : Bounds → Bool
valid_means_of b = valid_mean_of (get_or b.low 0 nan) (get_or b.high 0 nan) (get_or b.start 0 nan) && valid_mean_of (get_or b.low 1 nan) (get_or b.high 1 nan) (get_or b.start 1 nan)

unfoldable pub valid_sds_of : Bounds → Bool
valid_sds_of b = valid_sd_of (get_or b.low 0 nan) (get_or b.high 0 nan) (get_or b.start 0 nan) && valid_sd_of (get_or b.low 1 nan) (get_or b.high 1 nan) (get_or b.start 1 nan)

abbrev pub valid_boxes_of : Request → Bool
valid_boxes_of r = valid_means_of r.mean && valid_sds_of r.sd

abbrev pub up_to_of : ℕ → ℕ → Bool
up_to_of most n = leb 1 n && leb n most

unfoldable pub valid_controls_of : Request → Bool
valid_controls_of r = up_to_of 1000 r.evaluations.0 && (up_to_of 1000 r.iterations.0 && (is_finite_of r.tolerance && lt zero· r.tolerance))

-- the work limit, 1 to 20,000,000
abbrev pub valid_limit : ℕ → Bool
valid_limit l = up_to_of 20000000 l

-- at least two litters of each group
unfoldable pub two_each_of : List ℕ → Bool
two_each_of ls = leb 2 (of_group_of ls 0) && leb 2 (of_group_of ls 1)

-- all but the work limit
unfoldable pub admitted_of : Request → List ℕ → Bool
admitted_of r ls = valid_boxes_of r && (valid_controls_of r && (valid_litters_of ls && two_each_of ls))

-- the start, and the box: two means, then two variances
abbrev pub start_of : Request → List Float
start_of r = get_or r.mean.start 0 nan ∷ get_or r.mean.start 1 nan ∷ powi_of (get_or r.sd.start 0 nan) 2 ∷ powi_of (get_or r.sd.start 1 nan) 2 ∷ []

abbrev squared : List Float → ℕ → Float
squared v i = get_or v i nan ⊗ get_or v i nan

abbrev pub low_of : Request → List Float
low_of r = get_or r.mean.low 0 nan ∷ get_or r.mean.low 1 nan ∷ squared r.sd.low 0 ∷ squared r.sd.low 1 ∷ []

abbrev pub high_of : Request → List Float
high_of r = get_or r.mean.high 0 nan ∷ get_or r.mean.high 1 nan ∷ squared r.sd.high 0 ∷ squared r.sd.high 1 ∷ []
