-- Each step keeps `IsBlock`; which bytes the block then holds.
use Rattle.std.proofs.Common.{◌≡◌, ℕ, ◌+◌, ◌≤◌, List, ◌++◌, subst, map, length, take, drop, Some, refl, sym, ap, ◌∙◌, arith, length-take, length-drop}
use Rattle.std.proofs.lemmas.List.{length-map}
use Rattle.std.specs.List.{refill, length_refill}
use Rattle.bs_block.specs.Bytes.{range}
use Rattle.bs_block.specs.inner.Bytes.{with_range}
use Rattle.bs_block.specs.inner.BlockLayout.{IsBlock, bytes_of}
use Rattle.bs_block.specs.inner.RegionLends.{written_over}
use Rattle.bs_block.specs.inner.Region.{IsRun, somes, spliced}
use Rattle.bs_block.specs.declared.block.Block.TheInside.{Inside}
use Rattle.bs_block.specs.declared.raw.Region.{Region}
use Rattle.bs_block.proofs.Runs.{somes_map, length-spliced, run_within, appended, overwritten}

module _ {most : ℕ} (b : Inside most) (ok : IsBlock most b) where
  pub fits : b.len ≤ length b.region.slots
  fits = omega (arith, ok.len.0, ok.base.1)

  kept : (len : ℕ) (p : Region) (xs : List ℕ) → p.at ≡ b.region.at → length p.slots ≡ length b.region.slots → take len p.slots ≡ map Some xs → len ≤ most
      → let b' = record b { len = len; region = p } in IsBlock most b' × (bytes_of b' ≡ xs)
  kept len p xs at region holds le =
      let is : somes (take len p.slots) ≡ xs = ap somes holds ∙ somes_map xs in
      let long : len ≡ length xs = omega (arith, ap length holds, length-map xs Some, length-take len p.slots, region, ok.base.1, le) in
      (record { capacity = ok.capacity; base = (ok.base.0 ∙ sym at, region ∙ ok.base.1); origin = ok.origin; len = (le, long ∙ sym (ap length is)); written = holds ∙ ap (map Some) (sym is) }, is)

  -- bytes are appended
  pub grown : (p : Region) (n : ℕ) (ws : List ℕ) → p.at ≡ b.region.at → p.slots ≡ spliced b.region.slots b.len n ws → length ws ≡ n → b.len + n ≤ most
      → let b' = record b { len = b.len + n; region = p } in IsBlock most b' × (bytes_of b' ≡ bytes_of b ++ ws)
  grown p n ws at slots long le =
      kept (b.len + n) p (bytes_of b ++ ws) at (ap length slots ∙ length-spliced b.region.slots b.len n ws long (omega (arith, le, ok.base.1)))
      (ap (take (b.len + n)) slots ∙ appended b.region.slots b.len (bytes_of b) ok.written n ws fits long) le

  -- `grown`, where place and length are equal by arithmetic
  pub appended_bytes : (p : Region) (n at len : ℕ) (ws : List ℕ) → p.slots ≡ spliced b.region.slots at n ws → p.at ≡ b.region.at → at ≡ b.len → len ≡ b.len + n → length ws ≡ n → b.len + n ≤ most
      → let b' = record b { len = len; region = p } in IsBlock most b' × (bytes_of b' ≡ bytes_of b ++ ws)
  appended_bytes p n at len ws slots base at_is len_is long le =
      let whole = grown p n ws base (slots ∙ ap (λ k. spliced b.region.slots k n ws) at_is) long le in
      subst (λ k. let b' = record b { len = k; region = p } in IsBlock most b' × (bytes_of b' ≡ bytes_of b ++ ws)) (sym len_is) whole

  module _ (at n : ℕ) (within : at + n ≤ b.len) where
    run : take n (drop at b.region.slots) ≡ map Some (range at n (bytes_of b))
    run = run_within b.region.slots b.len (bytes_of b) ok.written at n within

    pub run_at : IsRun b.region.slots at n
    run_at = (range at n (bytes_of b), (omega (arith, within, fits), run))

    -- the bytes of a run that was read
    pub run_is : (xs : List ℕ) → take n (drop at b.region.slots) ≡ map Some xs → xs ≡ range at n (bytes_of b)
    run_is xs e = sym (somes_map xs) ∙ ap somes (sym e ∙ run) ∙ somes_map (range at n (bytes_of b))

    -- `run_is`, where place and length are equal by arithmetic
    pub run_reads : (at' n' : ℕ) (xs : List ℕ) → take n' (drop at' b.region.slots) ≡ map Some xs → at' ≡ at → n' ≡ n → xs ≡ range at n (bytes_of b)
    run_reads at' n' xs e at_is n_is = run_is xs ((λ i. take (sym n_is i) (drop (sym at_is i) b.region.slots)) ∙ e)

    -- a run is overwritten
    pub lent : (ws : List ℕ) → let b' = record b { region = written_over b.region at n ws } in IsBlock most b' × (bytes_of b' ≡ with_range (bytes_of b) at n ws)
    lent ws =
        let xs = bytes_of b in let old = somes (take n (drop at b.region.slots)) in let new = refill n old ws in
        let same : old ≡ range at n xs = ap somes run ∙ somes_map (range at n xs) in
        let count : n ≡ length old = omega (arith, ap length run, length-map (range at n xs) Some, ap length same, length-take n (drop at b.region.slots), length-drop at b.region.slots, within, fits) in
        let long : length new ≡ n = sym (length_refill n old ws count) in
        let all = kept b.len (written_over b.region at n ws) (take at xs ++ (new ++ drop (at + n) xs)) refl (length-spliced b.region.slots at n new long (omega (arith, within, fits)))
        (overwritten b.region.slots b.len xs ok.written at n new fits within long) ok.len.0 in
        (all.0, all.1 ∙ ap (λ l. take at xs ++ (refill n l ws ++ drop (at + n) xs)) same)
