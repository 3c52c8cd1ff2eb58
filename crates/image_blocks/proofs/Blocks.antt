-- Words of a memory, one more; eighths; regions by their numbers.
use Rattle.std.proofs.Common.{◌≡◌, ℕ, zero, suc, ◌+◌, ◌*◌, ◌-◌, ◌^◌, ◌<◌, ◌≤◌, List, [], ◌∷◌, ◌++◌, length, get_or, refl, ap, sym, ◌∙◌, add-one, arith}
use Rattle.std.proofs.Math.Pow.{pow_mono}
use Rattle.std.proofs.lemmas.List.{get_or_default}
use Rattle.base_words.specs.Bytes.{read}
use Rattle.plan_model.specs.declared.graph.DataRegion.{DataRegion}
use Rattle.plan_model.specs.Regions.{no_region, region_at}
use Rattle.machine_model.specs.Stack.{words_at}

pub words_more : (k o : ℕ) (mem : List ℕ) → words_at (k + 1) o mem ≡ words_at k o mem ++ read 4 (o + 4 * k) mem ∷ []
unfolding words_at
words_more zero o mem = ap (λ a. read 4 a mem ∷ []) (omega arith)
words_more (suc k) o mem =
    let e : o + 4 + 4 * k ≡ o + 4 * suc k = omega arith in
    ap (λ n. words_at n o mem) (add-one (suc k))
    ∙ ap (λ ws. read 4 o mem ∷ ws) (sym (ap (λ n. words_at n (o + 4) mem) (add-one k)) ∙ words_more k (o + 4) mem ∙ ap (λ a. words_at k (o + 4) mem ++ read 4 a mem ∷ []) e)

pub no_words : (o : ℕ) (mem : List ℕ) → words_at 0 o mem ≡ []
unfolding words_at
no_words o mem = refl

-- no eighth is taken out where eight or more are open
pub no_eighth_out : (n : ℕ) → 8 ≤ n → 2 ^ 8 - 2 ^ n ≡ 0
no_eighth_out n l = let m : 2 ^ 8 ≤ 2 ^ n = pow_mono l in omega (arith, m)

-- a region that is there
pub region_there : (rs : List DataRegion) (k : ℕ) (d : DataRegion) → k < length rs → get_or rs k d ≡ region_at rs k
region_there rs k d l = get_or_default rs k d no_region l
