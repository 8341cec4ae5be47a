-- A seat that is lent to one connection more.
use Rattle.std.proofs.Common.{◌≡◌, ℕ, List, [], ◌∷◌, ◌++◌, Option, None, Some, is_none, sym, ap, subst}
use Rattle.wb_lending.specs.Lending.{Served, Retired}
use Rattle.wb_lending.specs.declared.guests.Guests as Guests
use Rattle.wb_lending.proofs.Places.{one_more}
use Rattle.wb_lines.specs.declared.sink.Sink as Sink
use Rattle.wb_lines.specs.declared.source.Source as Source
use Rattle.wb_desk.specs.Courses.{Start}
use Rattle.wb_desk.specs.Serving.{Held}
use Rattle.wb_desk.specs.declared.settling.Difference.{Difference}
use Rattle.wb_program.specs.Stays.{hosts_at, ServedEarly}
use Rattle.wb_visits.specs.declared.visit.Visit.{Visit}

-- the reader and the writer are those of the connection
of_visit : {I O : Type 0} (source : Source.Ghosts I) (sink : Sink.Ghosts O) (seats : ℕ) (opening : Start) (m k : Held) (v : Visit I O) (i : I) (o : O)
    (told : Option Difference) → i ≡ v.reader → o ≡ v.writer → ServedEarly source sink seats opening m i o told k
    → ServedEarly source sink seats opening m v.reader v.writer told k
of_visit source sink seats opening m k v i o told is_reader is_writer served =
    subst (λ w. ServedEarly source sink seats opening m v.reader w told k) is_writer
    (subst (λ r. ServedEarly source sink seats opening m r o told k) is_reader served)

module _ {I O G X E : Type 0} (source : Source.Ghosts I) (sink : Sink.Ghosts O) (guests : Guests.Ghosts G (Visit I O) X E) where
  -- no difference was told
  pub lent_on : (seats : ℕ) (opening : Start) (h m k : Held) (cs : List (Visit I O)) (v : Visit I O) (i : I) (o : O) (told : Option Difference) (from : G)
      (number : ℕ) → Served guests (hosts_at source sink guests seats opening) h cs m → guests.came from number v → i ≡ v.reader → o ≡ v.writer
      → told ≡ None → ServedEarly source sink seats opening m i o told k
      → Served guests (hosts_at source sink guests seats opening) h (cs ++ v ∷ []) k
  lent_on seats opening h m k cs v i o told from number before came is_reader is_writer is_told served =
      one_more guests (hosts_at source sink guests seats opening) cs h m k v from number before came
      (told, sym (ap is_none is_told), of_visit source sink seats opening m k v i o told is_reader is_writer served)

  -- a difference was told
  pub retired : (seats : ℕ) (opening : Start) (m k : Held) (v : Visit I O) (i : I) (o : O) (told : Option Difference) (why : Difference) (from : G)
      (number : ℕ) → guests.came from number v → i ≡ v.reader → o ≡ v.writer → told ≡ Some why
      → ServedEarly source sink seats opening m i o told k → Retired guests (hosts_at source sink guests seats opening) m k
  retired seats opening m k v i o told why from number came is_reader is_writer is_told served = record {
    from = from;
    number = number;
    guest = v;
    came = came;
    served = (told, sym (ap is_none is_told), of_visit source sink seats opening m k v i o told is_reader is_writer served);
  }
