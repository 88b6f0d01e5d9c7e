mod LatticeLaws
