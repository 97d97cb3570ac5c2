use Rattle.std.proofs.Common.{◌<◌, length, refl, sym, ◌∙◌, subst}
use Rattle.std.proofs.lemmas.List.{length-set}
use Rattle.pami_minor.proofs.Slices.{priced_more, slices_count}
use Rattle.pami_minor.proofs.minor.Minor.commit_price.Goals as goal

pub returns : goal.returns
returns c = record {
  priced = λ f limit r row h e.
      let t = c.requires.turn in
      let l : c.args.slice < length c.args.self.now.alpha.items = subst (λ n. c.args.slice < n) (sym (slices_count t.0 t.1 t.2 t.3 c.args.slice c.args.self.now t.4)) t.5 in
      record {
        reached = h.reached;
        pick = h.pick;
        head = h.head;
        stands = h.stands;
        reduced = h.reduced;
        limited = record { count_is = h.limited.count_is; limit_is = h.limited.limit_is; most = h.limited.most; few = h.limited.few };
        rows = h.rows;
        remaining = h.remaining;
        picked = h.picked;
        priced = priced_more f r row c.args.slice c.args.self.now _ c.from_vec.result h.priced (c.from_vec.ensures ∙ e) l refl;
        room = record {
          nows = h.room.nows;
          dropped = h.room.dropped;
          remaining = h.room.remaining;
          steps = h.room.steps;
          slices = length-set _ c.args.slice _ ∙ h.room.slices;
        };
      };
  steps = refl;
  dropped = refl;
}
